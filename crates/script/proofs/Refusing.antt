-- A word that can't be read on is not spelled.
use Rattle.std.proofs.Common.{◌≡◌, ℕ, ◌%◌, ◌<◌, ◌≤◌, true, List, [], ◌∷◌, ◌++◌, length, get_or, drop, sym, ap, ◌∙◌, subst, length-append, inl, inr, arith}
use Rattle.std.proofs.lemmas.Bool.{and_parts, ltb-true}
use Rattle.servers.specs.Promise.{all_below, bytes}
use Rattle.script.specs.Text.{hex_of, InHex, InText, Spells, Unspelled, OnlyFirst, NoFirst}

-- if the word is spelled, so is what is left of it
abbrev pub Still : (ℕ → List ℕ → Type 0) → List ℕ → List ℕ → Type 0
Still one w rest = (bs : List ℕ) → bytes bs ≡ true → Spells one bs w → (cs : List ℕ) × (bytes cs ≡ true) × Spells one cs rest

pub still_all : (one : ℕ → List ℕ → Type 0) (w : List ℕ) → Still one w w
still_all one w bs b s = (bs, b, s)

left : (one : ℕ → List ℕ → Type 0) (rest after cs : List ℕ) → 0 < length rest → OnlyFirst one rest after → bytes cs ≡ true
    → Spells one cs rest → (ds : List ℕ) × (bytes ds ≡ true) × Spells one ds after
unfolding Spells all_below
left one rest after [] h only b s = let l = ap length s in absurd (omega arith)
left one rest after (c ∷ cs) h only b s =
    let p = and_parts _ _ b in
    (cs, p.1, subst (λ (z : List ℕ). Spells one cs z) (only c s.0 s.1 (ltb-true c 256 p.0) s.2 s.3) s.4)

pub still_more : (one : ℕ → List ℕ → Type 0) (w rest after : List ℕ) → 0 < length rest → OnlyFirst one rest after → Still one w rest
    → Still one w after
still_more one w rest after h only st bs b s = let t = st bs b s in left one rest after t.0 h only t.1 t.2

stuck : (one : ℕ → List ℕ → Type 0) (rest cs : List ℕ) → 0 < length rest → NoFirst one rest → bytes cs ≡ true → Spells one cs rest → ⊥
unfolding Spells all_below
stuck one rest [] h none b s = let l = ap length s in absurd (omega arith)
stuck one rest (c ∷ cs) h none b s = let p = and_parts _ _ b in none c s.0 s.1 (ltb-true c 256 p.0) s.2 s.3

pub unspelled : (one : ℕ → List ℕ → Type 0) (w rest : List ℕ) → 0 < length rest → NoFirst one rest → Still one w rest → Unspelled one w
unspelled one w rest h none st bs b s = let t = st bs b s in stuck one rest t.0 h none t.1 t.2

-- digits are in pairs, and two of them are a byte's
even : (bs w : List ℕ) → Spells InHex bs w → length w % 2 ≡ 0
unfolding Spells
even [] w s = let l = ap length s in omega arith
even (b ∷ bs) w s =
    let e = even bs s.1 s.4 in
    let l = ap length s.3 ∙ length-append s.0 s.1 in
    let x = ap length s.2 in
    omega arith

pub odd_unspelled : (w : List ℕ) → (length w % 2 ≡ 0 → ⊥) → Unspelled InHex w
odd_unspelled w h bs b s = h (even bs w s)

pub only_pair : (rest : List ℕ) → OnlyFirst InHex rest (drop 2 rest)
only_pair rest b x r h o e = sym (ap (drop 2) (e ∙ ap (λ (z : List ℕ). z ++ r) o))

pub none_pair :
    (rest : List ℕ) → ((b : ℕ) → b < 256 → (get_or rest 0 0 ∷ (get_or rest 1 0 ∷ []) ≡ hex_of b) → ⊥) → NoFirst InHex rest
none_pair rest none b x r h o e =
    none b h (ap (λ (z : List ℕ). get_or z 0 0 ∷ (get_or z 1 0 ∷ [])) (e ∙ ap (λ (z : List ℕ). z ++ r) o))

-- what begins with `\`, and what doesn't
pub empty_none : (w : List ℕ) → length w ≡ 0 → NoFirst InText w
empty_none w z b x r h (inl o) e = let l = ap length (e ∙ ap (λ (y : List ℕ). y ++ r) o) in absurd (omega arith)
empty_none w z b x r h (inr o) e = let l = ap length (e ∙ ap (λ (y : List ℕ). y ++ r) o.3) in absurd (omega arith)

heads : (w r t x : List ℕ) (a b : ℕ) → w ≡ a ∷ r → w ≡ x ++ t → x ≡ b ∷ [] → a ≡ b
heads w r t x a b e q o = ap (λ (z : List ℕ). get_or z 0 0) (sym e ∙ (q ∙ ap (λ (z : List ℕ). z ++ t) o))

pub only_escaped : (w r : List ℕ) → w ≡ 92 ∷ r → OnlyFirst InText w (drop 2 r)
only_escaped w r e b x t h (inl o) q = sym (ap (drop 3) (sym e ∙ (q ∙ ap (λ (z : List ℕ). z ++ t) o)))
only_escaped w r e b x t h (inr o) q = absurd (o.2 (sym (heads w r t x 92 b e q o.3)))

pub short_escape : (w r : List ℕ) → w ≡ 92 ∷ r → length r < 2 → NoFirst InText w
short_escape w r e s b x t h (inl o) q =
    let l = ap length (sym e ∙ (q ∙ ap (λ (z : List ℕ). z ++ t) o)) in absurd (omega arith)
short_escape w r e s b x t h (inr o) q = absurd (o.2 (sym (heads w r t x 92 b e q o.3)))

pub wrong_escape : (w r : List ℕ) → w ≡ 92 ∷ r
    → ((b : ℕ) → b < 256 → (get_or r 0 0 ∷ (get_or r 1 0 ∷ []) ≡ hex_of b) → ⊥) → NoFirst InText w
wrong_escape w r e none b x t h (inl o) q =
    none b h (ap (λ (z : List ℕ). get_or (drop 1 z) 0 0 ∷ (get_or (drop 1 z) 1 0 ∷ [])) (sym e ∙ (q ∙ ap (λ (z : List ℕ). z ++ t) o)))
wrong_escape w r e none b x t h (inr o) q = absurd (o.2 (sym (heads w r t x 92 b e q o.3)))

not_escaped : (w r t x : List ℕ) (a b : ℕ) → w ≡ a ∷ r → (a ≡ 92 → ⊥) → w ≡ x ++ t → x ≡ 92 ∷ hex_of b → ⊥
not_escaped w r t x a b e n q o = n (ap (λ (z : List ℕ). get_or z 0 0) (sym e ∙ (q ∙ ap (λ (z : List ℕ). z ++ t) o)))

pub only_plain : (w r : List ℕ) (a : ℕ) → w ≡ a ∷ r → (a ≡ 92 → ⊥) → OnlyFirst InText w r
only_plain w r a e n b x t h (inl o) q = absurd (not_escaped w r t x a b e n q o)
only_plain w r a e n b x t h (inr o) q = sym (ap (drop 1) (sym e ∙ (q ∙ ap (λ (z : List ℕ). z ++ t) o.3)))

pub not_plain : (w r : List ℕ) (a : ℕ) → w ≡ a ∷ r → (a ≡ 92 → ⊥) → (33 ≤ a → a ≤ 126 → ⊥) → NoFirst InText w
not_plain w r a e n g b x t h (inl o) q = not_escaped w r t x a b e n q o
not_plain w r a e n g b x t h (inr o) q =
    let s = heads w r t x a b e q o.3 in let low = o.0 in let high = o.1 in g (omega arith) (omega arith)
