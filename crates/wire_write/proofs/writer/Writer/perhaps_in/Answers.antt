use Rattle.std.proofs.Common.{◌≡◌, ℕ, ◌+◌, ◌-◌, List, ◌∷◌, length, get_or, take, drop, sym, ap, ◌∙◌, arith}
use Rattle.std.proofs.lemmas.List.{length-drop, take_rest}
use Rattle.servers.specs.Store.{Perhaps}
use Rattle.texts.specs.Words.{perhaps_in, unpacked}
use Rattle.wire.specs.Write.{write_perhaps, write_text}
use Rattle.wire_write.proofs.Putting.{length_wrote, wrote_as, wrote_then}
use Rattle.wire_write.proofs.Texts.{length_text, length_unpack, perhaps_some}
use Rattle.wire_write.proofs.writer.Writer.perhaps_in.Goals as goal

pub sized-requires-clause-room : goal.sized-requires-clause-room
sized-requires-clause-room c =
    let ws = c.args.words.now in
    let t : List ℕ = take (get_or ws 0 0 - 1) (unpacked (drop 1 ws)) in
    let some = c.requires.some in
    let sound = c.requires.sound in
    let room = c.requires.room in
    let left = c.if-words-eq0.false in
    let d = ap length (take_rest ws 1) in
    let f = length-drop 1 ws in
    let p = perhaps_some ws (omega arith) in
    let b : length (write_perhaps (perhaps_in ws)) ≡ 1 + length (write_text t) =
    ap (λ (q : Perhaps). length (write_perhaps q)) p ∙ omega arith in
    let l = length_text t in
    let u = length_unpack (get_or ws 0 0 - 1) (drop 1 ws) (omega arith) in
    let at = c.byte-else-words-eq0.ensures.at in
    let same = length_wrote c.byte-else-words-eq0.ensures.bytes in
    omega arith

pub returns-else-words-eq0 : goal.returns-else-words-eq0
returns-else-words-eq0 c =
    let ws = c.args.words.now in
    let left = c.if-words-eq0.false in
    let p = perhaps_some ws (omega arith) in
    let e = ap (λ (z : List ℕ). 1 ∷ write_text (take (get_or ws 0 0 - 1) (unpacked z))) (take_rest ws 1) in
    wrote_as (e ∙ sym (ap write_perhaps p)) (wrote_then c.byte-else-words-eq0.ensures.bytes c.sized.ensures)
