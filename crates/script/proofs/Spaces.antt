-- A word is never empty.
use Rattle.std.proofs.Common.{◌≡◌, ℕ, ◌+◌, ◌<◌, true, false, not, List, length, get_or, sym, ap, ◌∙◌, inl, inr, arith}
use Rattle.std.specs.List.{prefix_len, take_while}
use Rattle.std.proofs.lemmas.List.{get_or-drop, length-drop}
use Rattle.std.proofs.lemmas.List.Sums.{prefix_len_stops}
use Rattle.std.proofs.lemmas.List.Folds.{length-prefix_len}
use Rattle.std.proofs.lemmas.Bool.{cases_eq}
use Rattle.script.specs.Words.{is_space, in_word, without_spaces}

-- the first byte after the spaces is in a word
first_in_word : (xs : List ℕ) → 0 < length (without_spaces xs) → in_word (get_or (without_spaces xs) 0 0) ≡ true
first_in_word xs h =
    let n : ℕ = length (take_while is_space xs) in
    let d = length-drop n xs in
    let l = length-prefix_len is_space xs in
    let s = prefix_len_stops is_space xs 0 (omega arith) in
    let e : n + 0 ≡ prefix_len is_space xs = omega arith in
    ap in_word (get_or-drop n xs 0 0) ∙ (ap (λ (k : ℕ). in_word (get_or xs k 0)) e ∙ ap not s)

pub some_word : (xs : List ℕ) → 0 < length (without_spaces xs) → 0 < length (take_while in_word (without_spaces xs))
some_word xs h =
    let t : List ℕ = without_spaces xs in
    let l = length-prefix_len in_word t in
    elim (cases_eq (prefix_len in_word t) 0) [
      | inl z ↦
          let s = prefix_len_stops in_word t 0 (omega arith) in
          let f : in_word (get_or t 0 0) ≡ false = ap (λ (k : ℕ). in_word (get_or t k 0)) (sym z) ∙ s in
          let b : true ≡ false = sym (first_in_word xs h) ∙ f in
          cc
      | inr z ↦ omega arith
    ]
