use Rattle.std.proofs.Common.{◌≡◌, ℕ, ◌*◌, ◌/◌, [], length, take, sym, arith}
use Rattle.std.proofs.lemmas.List.{append-nil, nil_from_length}
use Rattle.texts.specs.Words.{unpacked}
use Rattle.texts.proofs.Parts.{unpacked_front}
use Rattle.texts.proofs.unpack.unpack.Goals as goal

pub returns-else-whole-n : goal.returns-else-whole-n
returns-else-whole-n c =
    let w : ℕ = length c.args.out.now / 8 in
    let l = c.split_at_mut-front.ensures.back_len in
    let s : length c.args.out.now ≡ 8 * w = omega arith in
    let a = c.unpack_whole.ensures in
    let b : c.split_at_mut-front.result.1.now ≡ [] = nil_from_length c.split_at_mut-front.result.1.now (omega arith) in
    rw (s, a, b, append-nil (unpacked (take w c.args.row.now))) (sym (unpacked_front c.args.row.now w (omega arith)))
