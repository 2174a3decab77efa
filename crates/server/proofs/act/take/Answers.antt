use Rattle.server.proofs.act.take.Goals as goal

pub returns-in-Timeout : goal.returns-in-Timeout
returns-in-Timeout c = rw c.in-Timeout.is c.on_timeout.ensures

pub returns-in-Request : goal.returns-in-Request
returns-in-Request c = rw c.in-Request.is c.on_request.ensures

pub returns-in-Comes : goal.returns-in-Comes
returns-in-Comes c = rw c.in-Comes.is c.take_message.ensures
