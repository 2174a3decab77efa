use Rattle.std.proofs.Common.{ℕ, List, sym, refl, ap, ◌∙◌}
use Rattle.servers.specs.Server.{timeout}
use Rattle.checks.specs.declared.refusal.Refusal.TheVariants.{LastTerm}
use Rattle.state.specs.Held as held
use Rattle.state.specs.Memory.{limits_of, state_of}
use Rattle.election.specs.Steps.{goes_on}
use Rattle.server.proofs.Answering.{turned_away}
use Rattle.server.proofs.Events.{timeout_last}
use Rattle.server.proofs.votes.on_timeout.Goals as goal

pub returns-then-not-free : goal.returns-then-not-free
returns-then-not-free c =
    let m = c.args.mem.now in
    let free = c.may_go_on-free.ensures ∙ ap (λ (z : List ℕ). goes_on (held.state_of z)) c.view.ensures in
    let e = timeout_last (limits_of m) (state_of m) refl (sym free ∙ c.if-not-free.true) in
    turned_away m c.args.out.now c.refuse.new.out timeout LastTerm c.refuse.result e refl
    c.refuse.ensures.answer c.refuse.ensures.bytes
