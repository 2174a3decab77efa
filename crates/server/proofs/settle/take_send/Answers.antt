use Rattle.std.proofs.Common.{sym, ◌∙◌}
use Rattle.servers.proofs.Tests.{pick_true, pick_false}
use Rattle.state.proofs.Laws.{stays, said}
use Rattle.server.proofs.settle.take_send.Goals as goal

pub returns-then-not-leads-clause-state : goal.returns-then-not-leads-clause-state
returns-then-not-leads-clause-state c =
    let m = c.args.mem.now in
    said m m _ _ (sym (pick_false _ _ _ (sym c.is_leader-leads.ensures ∙ c.if-not-leads.true))) (stays m)

pub returns-clause-state : goal.returns-clause-state
returns-clause-state c =
    let m = c.args.mem.now in
    said m c.set_send.new.self _ _ (sym (pick_true _ _ _ (sym c.is_leader-leads.ensures ∙ c.if-not-leads.false))) c.set_send.ensures
