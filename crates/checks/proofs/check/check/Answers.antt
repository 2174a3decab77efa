use Rattle.checks.proofs.Outcomes.{decided_is}
use Rattle.checks.proofs.check.check.Goals as goal

pub returns-in-Request : goal.returns-in-Request
returns-in-Request c = rw (c.in-Request.is, c.check_request.ensures) (decided_is _ _)

pub returns-in-Comes : goal.returns-in-Comes
returns-in-Comes c = rw (c.in-Comes.is, c.check_comes.ensures) (decided_is _ _)
