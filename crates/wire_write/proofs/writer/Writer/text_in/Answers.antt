use Rattle.std.proofs.Common.{arith}
use Rattle.texts.specs.Words.{text_in}
use Rattle.wire_write.proofs.Texts.{length_text, length_text_in}
use Rattle.wire_write.proofs.writer.Writer.text_in.Goals as goal

pub sized-requires-clause-room : goal.sized-requires-clause-room
sized-requires-clause-room c =
    let ws = c.args.words.now in
    let a = length_text (text_in ws) in
    let b = length_text_in ws c.requires.some c.requires.sound in
    let r = c.requires.room in
    omega arith
