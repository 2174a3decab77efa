use Rattle.wire_write.proofs.Putting.{wrote_then}
use Rattle.wire_write.proofs.writer.Writer.appended.Goals as goal

pub returns-clause-bytes : goal.returns-clause-bytes
returns-clause-bytes c =
    wrote_then c.byte.ensures.bytes
    (wrote_then c.number.ensures.bytes (wrote_then c.number-2.ensures.bytes c.bool.ensures.bytes))
