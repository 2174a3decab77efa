use Rattle.std.proofs.Common.{ℕ, ◌++◌, take, sym, ap}
use Rattle.texts.specs.Words.{unpacked}
use Rattle.wire.specs.Write.{write_number}
use Rattle.wire_write.proofs.Putting.{wrote_as, wrote_then}
use Rattle.wire_write.proofs.Texts.{length_unpack}
use Rattle.wire_write.proofs.writer.Writer.sized.Goals as goal

pub returns : goal.returns
returns c =
    let t = take c.args.len (unpacked c.args.words.now) in
    let u = length_unpack c.args.len c.args.words.now c.requires.there in
    wrote_as (ap (λ (k : ℕ). write_number k ++ t) (sym u)) (wrote_then c.number.ensures.bytes c.unpacked.ensures)
