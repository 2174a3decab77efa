use Rattle.std.proofs.Common.{◌≡◌, Bool, true, List, ℕ, sym, ap, ◌∙◌}
use Rattle.servers.specs.Server.{Limits, State, set_at, won}
use Rattle.servers.proofs.Tests.{pick_true, pick_false}
use Rattle.state.specs.Memory.{Becomes, limits_of, state_of}
use Rattle.state.specs.declared.words.Memory.{Memory}
use Rattle.state.specs.States.{with_votes, with_kind}
use Rattle.state.proofs.Laws.{said, then_to}
use Rattle.election.proofs.vote.count_vote.Goals as goal

-- the votes are counted in the memory that has one more
counted : (m m' : Memory) (vs : List Bool) → Becomes m m' (with_votes vs (state_of m))
    → won (limits_of m') (state_of m').votes ≡ won (limits_of m) vs
counted m m' vs a =
    ap (λ (l : Limits). won l (state_of m').votes) a.limits ∙ ap (λ (s : State). won (limits_of m) s.votes) a.state

pub returns-then-has_won : goal.returns-then-has_won
returns-then-has_won c =
    let m = c.args.mem.now in
    let s = state_of m in
    let vs : List Bool = set_at s.votes c.args.h true in
    let wins : won (limits_of m) vs ≡ true = sym (counted m c.add_vote.new.self vs c.add_vote.ensures) ∙ (sym c.has_won.ensures ∙ c.if-has_won.true) in
    then_to (with_kind 2) m c.add_vote.new.self c.lead.new.self (with_votes vs s) _ c.add_vote.ensures c.lead.ensures
    (ap (λ (k : ℕ). with_kind k (with_votes vs s)) (sym (pick_true (won (limits_of m) vs) 2 s.kind wins)))

pub returns-else-has_won : goal.returns-else-has_won
returns-else-has_won c =
    let m = c.args.mem.now in
    let s = state_of m in
    let vs : List Bool = set_at s.votes c.args.h true in
    let wins = sym (counted m c.add_vote.new.self vs c.add_vote.ensures) ∙ (sym c.has_won.ensures ∙ c.if-has_won.false) in
    said m c.add_vote.new.self (with_votes vs s) _
    (ap (λ (k : ℕ). with_kind k (with_votes vs s)) (sym (pick_false (won (limits_of m) vs) 2 s.kind wins))) c.add_vote.ensures
