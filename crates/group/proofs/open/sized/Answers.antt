use Rattle.std.proofs.Common.{sym, ◌∙◌}
use Rattle.servers.proofs.Opening.{opened_is_good}
use Rattle.memory.specs.Program.{serves}
use Rattle.group.proofs.open.sized.Goals as goal

pub returns-clause-sized : goal.returns-clause-sized
returns-clause-sized c =
    let q = opened_is_good serves c.args.servers 0 c.args.clients c.args.room c.in_ok-l.l (sym c.new.ensures ∙ c.in_ok-l.was) in
    record { good = (q.0, q.1, q.3, q.4, q.5, q.6, q.7); each = c.memory_words.ensures; answer = c.answer_bytes.ensures }
