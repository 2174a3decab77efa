-- An entry that is there: where its index and its term stand.
use Rattle.std.proofs.Common.{◌≡◌, ℕ, ◌<◌, ◌≤◌, true, false, ltb, List, [], ◌∷◌, length, take, drop, sym, refl, ap, ◌∙◌, arith}
use Rattle.std.proofs.lemmas.List.{drop-drop, length-drop}
use Rattle.std.proofs.lemmas.Bool.{both_ways, ltb-false}
use Rattle.servers.specs.Store.{pick}
use Rattle.servers.specs.Server.{Entry, last_index, last_term}
use Rattle.servers.proofs.Tests.{bool_by}
use Rattle.wire.specs.Read.{Read, got, stuck, and_then, number_of, read_number, read_command, read_entry, read_entries}
use Rattle.wire_read.specs.Got.{is_got, list_read}
use Rattle.wire_read.proofs.Passing.{first_there, entries_more}

never : {A : Type 0} (k : ℕ) (a : A) (r : List ℕ) → ◌≡◌ {A = Read A} (stuck k) (got a r) → ⊥
never k a r p = let y : ◌≡◌ {A = ℕ} 0 1 = cc in omega arith

what_is_got : {A : Type 0} (x : Read A) → is_got x ≡ true → (a : A) × ((r : List ℕ) × (x ≡ got a r))
what_is_got (got a r) p = (a, (r, refl))
what_is_got (stuck k) p = absurd (both_ways false refl p)

-- both parts of a reader got something
and_got : {A B : Type 0} (x : Read A) (f : A → List ℕ → Read B) (y : B) (z : List ℕ) → and_then x f ≡ got y z
    → (a : A) × ((r : List ℕ) × ((x ≡ got a r) × (f a r ≡ got y z)))
and_got (got a r) f y z p = (a, (r, (refl, p)))
and_got (stuck k) f y z p = absurd (never k y z p)

abbrev value_of : Read ℕ → ℕ
value_of (got a r) = a
value_of (stuck k) = 0

abbrev rest_of : {A : Type 0} → Read A → List ℕ
rest_of (got a r) = r
rest_of (stuck k) = []

number_got : (bs r : List ℕ) (c : ℕ) → read_number bs ≡ got c r → (8 ≤ length bs) × ((number_of (take 8 bs) ≡ c) × (drop 8 bs ≡ r))
unfolding read_number
number_got bs r c =
    bool_by
    (λ b. pick b (stuck 0) (got (number_of (take 8 bs)) (drop 8 bs)) ≡ got c r
    → (8 ≤ length bs) × ((number_of (take 8 bs) ≡ c) × (drop 8 bs ≡ r)))
    (ltb (length bs) 8) (λ q p. absurd (never 0 c r p)) (λ q p. (ltb-false (length bs) 8 q, (ap value_of p, ap rest_of p)))

entry_is : (x e : Entry) (y r : List ℕ) → ◌≡◌ {A = Read Entry} (got x y) (got e r) → x ≡ e
entry_is x e y r p = cc

pub record Headed (d : List ℕ) (index term : ℕ) : Type 0 where
  pub long : 33 ≤ length d
  pub index_there : number_of (take 8 (drop 17 d)) ≡ index
  pub term_there : number_of (take 8 (drop 25 d)) ≡ term

headed : (d r : List ℕ) (e : Entry) → read_entry d ≡ got e r → Headed d e.index e.term
unfolding read_entry
headed [] r e p = absurd (never 0 e r p)
headed (b ∷ bs) r e p =
    let s₁ = and_got (read_number bs) _ e r p in
    let n₁ = number_got bs s₁.1.0 s₁.0 s₁.1.1.0 in
    let s₂ = and_got (read_number s₁.1.0) _ e r s₁.1.1.1 in
    let n₂ = number_got s₁.1.0 s₂.1.0 s₂.0 s₂.1.1.0 in
    let s₃ = and_got (read_number s₂.1.0) _ e r s₂.1.1.1 in
    let n₃ = number_got s₂.1.0 s₃.1.0 s₃.0 s₃.1.1.0 in
    let s₄ = and_got (read_number s₃.1.0) _ e r s₃.1.1.1 in
    let n₄ = number_got s₃.1.0 s₄.1.0 s₄.0 s₄.1.1.0 in
    let s₅ = and_got (read_command s₄.1.0) _ e r s₄.1.1.1 in
    let z = entry_is _ e _ r s₅.1.1.1 in
    let d₂ : drop 16 bs ≡ s₂.1.0 = sym (drop-drop 8 8 bs) ∙ (ap (λ (z : List ℕ). drop 8 z) n₁.1.1 ∙ n₂.1.1) in
    let d₃ : drop 24 bs ≡ s₃.1.0 = sym (drop-drop 8 16 bs) ∙ (ap (λ (z : List ℕ). drop 8 z) d₂ ∙ n₃.1.1) in
    let l₁ = length-drop 24 bs in
    let l₂ = ap length d₃ in
    let l₃ = n₄.0 in
    record {
      long = omega arith;
      index_there = ap (λ (z : List ℕ). number_of (take 8 z)) d₂ ∙ (n₃.1.0 ∙ ap (λ (x : Entry). x.index) z);
      term_there = ap (λ (z : List ℕ). number_of (take 8 z)) d₃ ∙ (n₄.1.0 ∙ ap (λ (x : Entry). x.term) z);
    }

-- the first of entries that are there
pub first_headed :
    (n : ℕ) (d : List ℕ) → 0 < n
    → is_got (read_entries n d) ≡ true
    → Headed d (last_index (list_read (read_entries n d))) (last_term (list_read (read_entries n d)))
first_headed n d some there =
    let g = what_is_got (read_entry d) (first_there n d some there) in
    rw (entries_more n d g.1.0 g.0 some g.1.1 there) (headed d g.1.0 g.0 g.1.1)
