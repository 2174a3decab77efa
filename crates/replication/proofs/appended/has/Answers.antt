use Rattle.std.proofs.Common.{ℕ, ◌+◌, List, ◌∙◌}
use Rattle.servers.specs.Server.{State, set_at, with_next}
use Rattle.state.specs.Memory.{state_of}
use Rattle.state.specs.States.{with_matches}
use Rattle.state.proofs.Laws.{then_to, at_least_is}
use Rattle.replication.proofs.Hearing.{both_up}
use Rattle.replication.proofs.appended.has.Goals as goal

pub returns : goal.returns
returns c =
    let m = c.args.mem.now in
    let h : ℕ = c.args.h in
    let known : ℕ = c.max-known.result in
    then_to (λ (s : State). with_matches (set_at s.matches h known) s) m c.set_next.new.self c.set_match.new.self
    (with_next h c.max-next.result (state_of m)) _ c.set_next.ensures c.set_match.ensures
    (both_up (state_of m) h c.args.index c.next_for.result c.match_of.result c.max-next.result known
    c.next_for.ensures.value c.match_of.ensures.value
    (c.max-next.ensures ∙ at_least_is c.next_for.result (c.args.index + 1))
    (c.max-known.ensures ∙ at_least_is c.match_of.result c.args.index))
