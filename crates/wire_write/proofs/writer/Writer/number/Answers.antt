use Rattle.std.proofs.Common.{rules}
use Rattle.wire.specs.Write.{write_number}
use Rattle.wire_write.proofs.Putting.{wrote_as}
use Rattle.wire_write.proofs.writer.Writer.number.Goals as goal

pub returns-clause-bytes : goal.returns-clause-bytes
unfolding write_number
returns-clause-bytes c = wrote_as (search rules) c.bytes.ensures.bytes
