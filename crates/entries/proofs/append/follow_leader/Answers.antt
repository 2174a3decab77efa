use Rattle.servers.specs.Server.{following, advanced}
use Rattle.state.specs.Memory.{state_of}
use Rattle.state.proofs.Laws.{next_then}
use Rattle.entries.proofs.append.follow_leader.Goals as goal

pub returns : goal.returns
returns c =
    next_then (λ l s. following c.args.from s) c.args.mem.now c.advance.new.self c.follow.new.self
    (advanced c.args.term (state_of c.args.mem.now)) c.advance.ensures c.follow.ensures
