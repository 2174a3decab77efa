use Rattle.std.proofs.Common.{sym, ◌∙◌}
use Rattle.servers.proofs.Tests.{pick_true, pick_false}
use Rattle.state.proofs.Laws.{said}
use Rattle.election.proofs.timeout.time_is_up.Goals as goal

pub returns-then-leads-clause-state : goal.returns-then-leads-clause-state
returns-then-leads-clause-state c =
    said c.args.mem.now c.set_send.new.self _ _ (sym (pick_true _ _ _ (sym c.is_leader-leads.ensures ∙ c.if-leads.true))) c.set_send.ensures

pub returns-else-leads-clause-state : goal.returns-else-leads-clause-state
returns-else-leads-clause-state c =
    said c.args.mem.now c.stand.new.self _ _ (sym (pick_false _ _ _ (sym c.is_leader-leads.ensures ∙ c.if-leads.false))) c.stand.ensures
