use Rattle.std.proofs.Common.{Ok, Err, ap, ◌∙◌}
use Rattle.wire_read.specs.Means.{means}
use Rattle.checks.specs.Outcome.{Checked}
use Rattle.checks.proofs.Handing.{turned_refused}
use Rattle.state.specs.Memory.{limits_of, state_of}
use Rattle.server.proofs.Answering.{turned_away}
use Rattle.server.proofs.Steps.{checked_by, answered_as}
use Rattle.server.proofs.act.act.Goals as goal

pub returns-in-Ok-clause-answered : goal.returns-in-Ok-clause-answered
returns-in-Ok-clause-answered c =
    let m = c.args.mem.now in
    let k : Checked (limits_of m) c.read_event-event.result (Ok c.in-Ok.passed) =
    checked_by m c.limits-l.ensures c.in-Ok.is c.check.ensures in
    answered_as (ap means k.handed.0 ∙ c.read_event-event.ensures.value) c.take.ensures

pub returns-in-Err-clause-answered : goal.returns-in-Err-clause-answered
returns-in-Err-clause-answered c =
    let m = c.args.mem.now in
    let e = c.read_event-event.result in
    let x = c.in-Err.refusal in
    let k : Checked (limits_of m) e (Err x) = checked_by m c.limits-l.ensures c.in-Err.is c.check.ensures in
    answered_as c.read_event-event.ensures.value
    (turned_away m c.args.out.now c.refuse.new.out (means e) x c.refuse.result
    (turned_refused (limits_of m) (state_of m) e x k) k.handed c.refuse.ensures.answer c.refuse.ensures.bytes)

pub returns-in-Ok-clause-same : goal.returns-in-Ok-clause-same
returns-in-Ok-clause-same c = c.take.ensures.turns.same
