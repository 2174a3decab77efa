use Rattle.std.proofs.Common.{arith}
use Rattle.server.proofs.Sent.{letters_none}
use Rattle.server.proofs.first.write_entries_if.Goals as goal

pub returns-else-send : goal.returns-else-send
returns-else-send c =
    let p = c.requires.room in
    rw c.if-send.false (letters_none c.args.to.now (omega arith))
