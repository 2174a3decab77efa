-- Words written one part after the other: a command's, a row's.
use Rattle.std.proofs.Common.{◌≡◌, Option, None, Some, Bor, ℕ, suc, ◌+◌, ◌-◌, ◌≤◌, List, [], ◌∷◌, ◌++◌, length, take, drop, set, sym, refl, ap, ◌∙◌, arith}
use borrow.Rule.Slice.PartMut.{put_mid}
use Rattle.std.proofs.lemmas.List.{append_assoc, append-nil, drop_all, take_all, length-take-le, length-drop, length-append}
use Rattle.std.proofs.lemmas.Slice.{take-put_mid}
use Rattle.texts.specs.Means as texts
use Rattle.wire_read.specs.Means.{perhaps_of}

-- a part that was lent has the length that was asked for
pub length_part : (a k : ℕ) (xs : List ℕ) → a + k ≤ length xs → length (take k (drop a xs)) ≡ k
length_part a k xs h = let d = length-drop a xs in length-take-le k (drop a xs) (omega arith)

pub length_put : (a k : ℕ) (xs ys : List ℕ) → length ys ≡ k → a + k ≤ length xs → length (put_mid a k xs ys) ≡ length xs
length_put a k xs ys e h =
    let p = length-append (take a xs) (ys ++ drop k (drop a xs)) in
    let q = length-append ys (drop k (drop a xs)) in
    let r = length-take-le a xs (omega arith) in
    let s = length-drop k (drop a xs) in
    let t = length-drop a xs in
    omega arith

put_next : (a k n : ℕ) (xs ys p : List ℕ) → take a xs ≡ p → length ys ≡ k → n ≡ a + k → a + k ≤ length xs
    → take n (put_mid a k xs ys) ≡ p ++ ys
put_next a k n xs ys p e l m h = take-put_mid a k xs ys n (omega arith) (omega arith) ∙ ap (λ (z : List ℕ). z ++ ys) e

-- three parts after a first word, up to the end
pub three_parts : (x a b c n₁ n₂ n₃ : ℕ) (xs t p v : List ℕ)
    → length xs ≡ n₃ → length t ≡ a → length p ≡ b → length v ≡ c → n₁ ≡ 1 + a → n₂ ≡ n₁ + b → n₃ ≡ n₂ + c
    → put_mid n₂ c (put_mid n₁ b (put_mid 1 a (set xs 0 x) t) p) v ≡ x ∷ (t ++ (p ++ v))
three_parts x a b c n₁ n₂ n₃ [] t p v l e f g i j k = absurd (omega arith)
three_parts x a b c n₁ n₂ n₃ (y ∷ xs) t p v l e f g i j k =
    let s₀ : List ℕ = x ∷ xs in
    let s₁ : List ℕ = put_mid 1 a s₀ t in
    let s₂ : List ℕ = put_mid n₁ b s₁ p in
    let s₃ : List ℕ = put_mid n₂ c s₂ v in
    let l₁ = length_put 1 a s₀ t e (omega arith) in
    let q₁ : take n₁ s₁ ≡ (x ∷ []) ++ t = put_next 1 a n₁ s₀ t (x ∷ []) refl e i (omega arith) in
    let l₂ = length_put n₁ b s₁ p f (omega arith) in
    let q₂ : take n₂ s₂ ≡ ((x ∷ []) ++ t) ++ p = put_next n₁ b n₂ s₁ p ((x ∷ []) ++ t) q₁ f j (omega arith) in
    let l₃ = length_put n₂ c s₂ v g (omega arith) in
    let q₃ : take n₃ s₃ ≡ (((x ∷ []) ++ t) ++ p) ++ v = put_next n₂ c n₃ s₂ v (((x ∷ []) ++ t) ++ p) q₂ g k (omega arith) in
    sym (take_all n₃ s₃ (omega arith)) ∙ (q₃ ∙ ap (λ (z : List ℕ). x ∷ z) (append_assoc t p v))

-- what a text, or a text or none, left in a part of so many words
pub part_written : (f : ℕ → List ℕ) (n : ℕ) (row part : List ℕ) → row ≡ f (length part - 1) → length part ≡ suc n → row ≡ f n
part_written f n row part e l = let z : length part - 1 ≡ n = omega arith in e ∙ ap f z

pub perhaps_same : (t : Option (Bor (List ℕ))) → texts.perhaps_of t ≡ perhaps_of t
perhaps_same None = refl
perhaps_same (Some t) = refl

-- a row: its four numbers were written, then its command
pub row_written : (xs ys zs : List ℕ) (t a c i : ℕ) → length xs ≡ 80 → ys ≡ zs
    → put_mid 4 76 (t ∷ (a ∷ (c ∷ (i ∷ drop 4 xs)))) ys ≡ t ∷ (a ∷ (c ∷ (i ∷ zs)))
row_written xs ys zs t a c i h e = by (drop 4 xs) (length-drop 4 xs)
  where
    by : (rest : List ℕ) → length rest ≡ length xs - 4 → t ∷ (a ∷ (c ∷ (i ∷ (ys ++ drop 76 rest)))) ≡ t ∷ (a ∷ (c ∷ (i ∷ zs)))
    by rest l = ap (λ (z : List ℕ). t ∷ (a ∷ (c ∷ (i ∷ (ys ++ z))))) (drop_all 76 rest (omega arith)) ∙ rw (append-nil ys, e) refl
