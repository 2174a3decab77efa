use Rattle.std.proofs.Common.{◌≡◌, ℕ, ◌+◌, ◌*◌, ◌/◌, List, length, drop, sym, refl, ◌∙◌, arith}
use Rattle.texts.specs.Words.{cells}
use Rattle.texts.proofs.Cells.{cells_add}
use Rattle.texts.proofs.Parts.{cells_whole}
use Rattle.texts.proofs.pack.pack.Goals as goal

pub returns-else-row-whole : goal.returns-else-row-whole
returns-else-row-whole c =
    let t : List ℕ = c.args.text.now in
    let w : ℕ = length t / 8 in
    let l = c.as_chunks.ensures.front_len in
    let front = c.split_at_mut-front.ensures.front_len in
    let back = c.split_at_mut-front.ensures.back_len in
    let f = c.as_chunks.ensures.front in
    let b = c.as_chunks.ensures.back in
    let k : length c.split_at_mut-front.result.0.now ≡ w = omega arith in
    let m : w * 8 ≡ 8 * w = omega arith in
    let a : c.pack_whole-else-row-whole.new.row ≡ cells w t =
    c.pack_whole-else-row-whole.ensures ∙ rw (f, k) (cells_whole w w t (omega arith)) in
    let r : c.pack_rest.new.row ≡ cells (length c.split_at_mut-front.result.1.now) (drop (8 * w) t) =
    c.pack_rest.ensures ∙ rw (b, m) refl in
    let s : length c.args.row.now ≡ w + length c.split_at_mut-front.result.1.now = omega arith in
    rw (a, r, s) (sym (cells_add w (length c.split_at_mut-front.result.1.now) t))
