use Rattle.std.proofs.Common.{Bool, sym, ap}
use Rattle.servers.specs.Server.{Limits, State, voted_on}
use Rattle.state.specs.Memory.{limits_of, state_of}
use Rattle.state.proofs.Laws.{said, next_then}
use Rattle.election.specs.Steps.{fresh, voted_by}
use Rattle.election.proofs.vote.hear.Goals as goal

pub returns-then-granted : goal.returns-then-granted
returns-then-granted c =
    let m = c.args.mem.now in
    let l = limits_of m in
    let s = state_of m in
    said m c.count_vote.new.mem (voted_by l c.args.h (fresh l s)) _
    (ap (λ (b : Bool). voted_on l c.args.h b s) (sym c.if-granted.true))
    (next_then (λ (k : Limits) (t : State). voted_by k c.args.h t) m _ c.count_vote.new.mem (fresh l s) (assumption)
    c.count_vote.ensures)

pub returns-else-granted : goal.returns-else-granted
returns-else-granted c =
    let m = c.args.mem.now in
    let l = limits_of m in
    let s = state_of m in
    said m _ (fresh l s) _ (ap (λ (b : Bool). voted_on l c.args.h b s) (sym c.if-granted.false)) (assumption)
