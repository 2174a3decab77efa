use Rattle.std.proofs.Common.{◌≡◌, ℕ, ◌+◌, ◌-◌, ◌*◌, List, length, get_or, sym, refl, ap, ◌∙◌, arith}
use Rattle.std.proofs.lemmas.Slice.{take-put_mid}
use Rattle.texts.specs.Words.{bytes_be, unpacked}
use Rattle.texts.proofs.Bytes.{length_bytes_be}
use Rattle.texts.proofs.Parts.{unpacked_more}
use Rattle.texts.proofs.unpack.unpack_whole.Goals as goal

pub loop-k-init : goal.loop-k-init
unfolding unpacked
loop-k-init c = refl

pub loop-k-preserved : goal.loop-k-preserved
loop-k-preserved c =
    let k : ℕ = c.loop-k.k in
    let ys : List ℕ = c.copy_from_slice.new.self in
    let b : ys ≡ bytes_be 8 (get_or c.args.row.now k 0) = c.copy_from_slice.ensures.after ∙ c.bytes8.ensures in
    let l = ap length b in let m = length_bytes_be 8 (get_or c.args.row.now k 0) in
    let p = take-put_mid (8 * k) (8 * k + 8 - 8 * k) c.loop-k.out ys (8 * (k + 1)) (omega arith) (omega arith) in
    let u = unpacked_more c.args.row.now k (omega arith) in
    p ∙ (rw (c.loop-k.invariant, b) refl ∙ sym u)
