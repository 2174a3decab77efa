use Rattle.std.proofs.Common.{◌≡◌, ℕ, List, length, take, drop, set, refl, ap, ◌∙◌, arith}
use borrow.Rule.Slice.PartMut.{put_mid}
use Rattle.std.proofs.lemmas.List.{length-set}
use Rattle.texts.specs.Words.{text_words, perhaps_words}
use Rattle.texts.proofs.Cells.{length_text_words, length_perhaps_words}
use Rattle.wire_read.specs.Means.{perhaps_of}
use Rattle.raft_log.proofs.command.pack_parts.Goals as goal
use Rattle.raft_log.proofs.Written.{three_parts, part_written, perhaps_same, length_part, length_put}

pub returns : goal.returns
returns c =
    let size = c.requires in
    let name : List ℕ = c.args.name.now in
    let text : List ℕ = c.args.text.now in
    let w₀ : List ℕ = set c.args.words.now 0 c.args.tag in
    let l₀ = length-set c.args.words.now 0 c.args.tag in
    let k : List ℕ = c.write_text.new.row in
    let e : List ℕ = c.write_perhaps.new.row in
    let v : List ℕ = c.write_text-2.new.row in
    let p = part_written (λ n. text_words n name) 8 k (take 9 (drop 1 w₀)) c.write_text.ensures (length_part 1 9 w₀ (omega arith)) in
    let lk : length k ≡ 9 = ap length p ∙ length_text_words 8 name in
    let w₁ : List ℕ = put_mid 1 9 w₀ k in
    let l₁ = length_put 1 9 w₀ k lk (omega arith) in
    let q = part_written (λ n. perhaps_words n (perhaps_of c.args.expected)) 32 e (take 33 (drop 10 w₁))
    (rw (← perhaps_same c.args.expected) c.write_perhaps.ensures) (length_part 10 33 w₁ (omega arith)) in
    let le : length e ≡ 33 = ap length q ∙ length_perhaps_words 32 (perhaps_of c.args.expected) in
    let w₂ : List ℕ = put_mid 10 33 w₁ e in
    let l₂ = length_put 10 33 w₁ e le (omega arith) in
    let r = part_written (λ n. text_words n text) 32 v (take 33 (drop 43 w₂)) c.write_text-2.ensures (length_part 43 33 w₂ (omega arith)) in
    let lv : length v ≡ 33 = ap length r ∙ length_text_words 32 text in
    three_parts c.args.tag 9 33 33 10 43 76 c.args.words.now k e v size lk le lv refl refl refl ∙ rw (p, q, r) refl
