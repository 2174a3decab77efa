use Rattle.std.proofs.Common.{arith}
use Rattle.wire_write.proofs.Putting.{length_wrote, wrote_then}
use Rattle.wire_write.proofs.Texts.{length_text}
use Rattle.wire_write.proofs.writer.Writer.perhaps.Goals as goal

pub text-requires : goal.text-requires
text-requires c =
    let l = length_text c.in-Some.t.now in
    let r = rw c.in-Some.is at c.requires in
    let same = length_wrote c.byte.ensures.bytes in
    omega arith

pub returns-in-Some-clause-bytes : goal.returns-in-Some-clause-bytes
returns-in-Some-clause-bytes c =
    rw c.in-Some.is (wrote_then c.byte.ensures.bytes c.text.ensures.bytes)
