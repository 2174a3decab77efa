use Rattle.std.proofs.Common.{rules}
use Rattle.wire_write.proofs.Putting.{wrote_then}
use Rattle.group.proofs.Lent.{lent}
use Rattle.group.proofs.journal.put_came.Goals as goal

pub returns-clause-bytes : goal.returns-clause-bytes
returns-clause-bytes c = lent (search rules) (wrote_then c.byte.ensures.bytes c.text.ensures.bytes).writes
