use Rattle.wire_write.proofs.Putting.{wrote_then}
use Rattle.wire_write.proofs.writer.Writer.text.Goals as goal

pub returns-clause-bytes : goal.returns-clause-bytes
returns-clause-bytes c =
    wrote_then c.number.ensures.bytes c.bytes.ensures.bytes
