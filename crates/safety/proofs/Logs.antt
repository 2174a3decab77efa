-- Logs as lists, the last entry first. `up_to n l` is what l has up to index n, `entry_at n l` its entry n, `above n l` what it has
-- beyond n. Two logs agree up to n if `up_to n` of both is the same. Nothing here is about Raft.
use Rattle.std.proofs.Common.{◌≡◌, ℕ, zero, suc, ◌+◌, ◌<◌, ◌≤◌, true, false, eqb, ltb, leb, ◌⊎◌, List, [], ◌∷◌, ◌++◌, length, sym, refl, ap, ◌∙◌, inl, inr, arith}
use Rattle.servers.specs.Store.{pick}
use Rattle.servers.specs.Server.{Entry, last_index, last_term, up_to, entry_at, above, term_is, in_a_row}
use Rattle.std.proofs.lemmas.Bool.{and_parts, false≢true, cases_lt}
use Rattle.std.proofs.lemmas.Bool.Decides.{nat_tests}
use Rattle.servers.proofs.Tests.{bool_by}

-- indices are 1, 2, 3 .. without a gap
abbrev pub Contiguous : List Entry → Type 0
Contiguous [] = Unit {0}
Contiguous (e ∷ es) = (e.index ≡ suc (length es)) × Contiguous es

-- terms never fall along it, none is 0, and none is beyond t
abbrev pub Ascending : List Entry → ℕ → Type 0
Ascending [] t = Unit {0}
Ascending (e ∷ es) t = (1 ≤ e.term) × (e.term ≤ t) × Ascending es e.term

-- PREFIXES

pub up_to_up_to : (m n : ℕ) (l : List Entry) → m ≤ n → up_to m (up_to n l) ≡ up_to m l
unfolding up_to
up_to_up_to m n [] h = refl
up_to_up_to m n (e ∷ es) h = let ih = up_to_up_to m n es h in grind (arith, nat_tests)

pub up_to_all : (n : ℕ) (l : List Entry) → last_index l ≤ n → up_to n l ≡ l
unfolding up_to
up_to_all n [] h = refl
up_to_all n (e ∷ es) h = grind (arith, nat_tests)

pub up_to_zero : (l : List Entry) → Contiguous l → up_to 0 l ≡ []
unfolding up_to
up_to_zero [] r = refl
up_to_zero (e ∷ es) r = let ih = up_to_zero es r.1 in let q = r.0 in grind (arith, nat_tests)

pub up_to_cons : (n : ℕ) (e : Entry) (l : List Entry) → n < e.index → up_to n (e ∷ l) ≡ up_to n l
unfolding up_to
up_to_cons n e l h = grind (arith, nat_tests)

pub agree_below : (m n : ℕ) (a b : List Entry) → m ≤ n → up_to n a ≡ up_to n b → up_to m a ≡ up_to m b
agree_below m n a b h e = sym (up_to_up_to m n a h) ∙ (ap (up_to m) e ∙ up_to_up_to m n b h)

pub agree_at_zero : (a b : List Entry) → Contiguous a → Contiguous b → up_to 0 a ≡ up_to 0 b
agree_at_zero a b r q = up_to_zero a r ∙ sym (up_to_zero b q)

pub last_up_to_below : (n : ℕ) (l : List Entry) → last_index (up_to n l) ≤ n
unfolding up_to
last_up_to_below n [] = omega arith
last_up_to_below n (e ∷ es) = let ih = last_up_to_below n es in grind (arith, nat_tests)

-- ENTRIES

pub entry_up_to : (n m : ℕ) (l : List Entry) → n ≤ m → entry_at n (up_to m l) ≡ entry_at n l
unfolding up_to entry_at
entry_up_to n m [] h = refl
entry_up_to n m (e ∷ es) h = let ih = entry_up_to n m es h in grind (arith, nat_tests)

pub agree_entry : (n m : ℕ) (a b : List Entry) → n ≤ m → up_to m a ≡ up_to m b → entry_at n a ≡ entry_at n b
agree_entry n m a b h e = sym (entry_up_to n m a h) ∙ (ap (entry_at n) e ∙ entry_up_to n m b h)

pub entry_within : (n : ℕ) (l : List Entry) (x : Entry) → entry_at n l ≡ x ∷ [] → n ≤ last_index l
unfolding entry_at
entry_within n [] x e = grind (arith, nat_tests)
entry_within n (y ∷ ys) x e = grind (arith, nat_tests)

pub entry_last : (e : Entry) (es : List Entry) → entry_at (last_index (e ∷ es)) (e ∷ es) ≡ e ∷ []
unfolding entry_at
entry_last e es = grind (arith, nat_tests)

pub entry_cons : (n : ℕ) (e x : Entry) (l : List Entry) → entry_at n (e ∷ l) ≡ x ∷ [] → (e ≡ x) ⊎ (entry_at n l ≡ x ∷ [])
unfolding entry_at
entry_cons n e x l =
    bool_by (λ b. pick b (e ∷ []) (pick (ltb e.index n) [] (entry_at n l)) ≡ x ∷ [] → (e ≡ x) ⊎ (entry_at n l ≡ x ∷ []))
    (eqb e.index n)
    (λ q h. inl cc)
    (λ q h. inr (grind (arith, nat_tests)))

-- none, or one
abbrev pub AtMostOne : List Entry → Type 0
AtMostOne l = (l ≡ []) ⊎ ((x : Entry) × (l ≡ x ∷ []))

pub entry_at_most_one : (n : ℕ) (l : List Entry) → AtMostOne (entry_at n l)
unfolding entry_at
entry_at_most_one n [] = inl refl
entry_at_most_one n (e ∷ es) =
    bool_by (λ b. AtMostOne (pick b (e ∷ []) (pick (ltb e.index n) [] (entry_at n es)))) (eqb e.index n)
    (λ q. inr (e, refl))
    (λ q. bool_by (λ b. AtMostOne (pick b [] (entry_at n es))) (ltb e.index n) (λ r. inl refl) (λ r. entry_at_most_one n es))

-- an entry of which the term was compared is there, and has that term
pub entry_of_term : (n : ℕ) (l : List Entry) (t : ℕ)
    → term_is (entry_at n l) t ≡ true → (x : Entry) × (entry_at n l ≡ x ∷ []) × (x.term ≡ t)
entry_of_term n l t h = go (entry_at_most_one n l)
  where
    go : AtMostOne (entry_at n l) → (x : Entry) × (entry_at n l ≡ x ∷ []) × (x.term ≡ t)
    go (inl e) = absurd (false≢true (rw e at h))
    go (inr (x, e)) = let k : eqb x.term t ≡ true = rw e at h in (x, e, grind (arith, nat_tests))

pub term_of_entry : (n : ℕ) (l : List Entry) (t : ℕ) (x : Entry) → entry_at n l ≡ x ∷ [] → x.term ≡ t → term_is (entry_at n l) t ≡ true
term_of_entry n l t x e q = rw e (grind (arith, nat_tests))

-- a log that begins with all of another is no shorter
pub prefix_within : (a l : List Entry) → up_to (last_index a) l ≡ a → last_index a ≤ last_index l
prefix_within [] l e = omega arith
prefix_within (x ∷ xs) l e =
    let all : up_to x.index (x ∷ xs) ≡ x ∷ xs = up_to_all x.index (x ∷ xs) (omega arith) in
    entry_within x.index l x (agree_entry x.index x.index l (x ∷ xs) (omega arith) (e ∙ sym all) ∙ entry_last x xs)

-- CONTIGUOUS LOGS

pub contiguous_last : (l : List Entry) → Contiguous l → last_index l ≡ length l
contiguous_last [] r = refl
contiguous_last (e ∷ es) r = r.0

pub contiguous_up_to : (n : ℕ) (l : List Entry) → Contiguous l → Contiguous (up_to n l)
unfolding up_to
contiguous_up_to n [] r = tt
contiguous_up_to n (e ∷ es) r =
    bool_by (λ b. Contiguous (pick b (e ∷ es) (up_to n es))) (leb e.index n) (λ q. r) (λ q. contiguous_up_to n es r.1)

pub last_of_up_to : (n : ℕ) (l : List Entry) → Contiguous l → n ≤ last_index l → last_index (up_to n l) ≡ n
unfolding up_to
last_of_up_to n [] r h = omega arith
last_of_up_to n (e ∷ es) r h =
    let p = r.0 in
    let k = contiguous_last es r.1 in
    let ih = last_of_up_to n es r.1 in
    grind (arith, nat_tests)

-- a part from the beginning is no longer than the whole, and is the whole up to its own end
pub last_up_to_within : (n : ℕ) (l : List Entry) → Contiguous l → last_index (up_to n l) ≤ last_index l
last_up_to_within n l r =
    elim (cases_lt (last_index l) n) [
      | inl p ↦ rw (up_to_all n l (omega arith)) (omega arith)
      | inr p ↦ (let e = last_of_up_to n l r p in omega arith)
    ]

pub up_to_its_end : (n : ℕ) (l : List Entry) → Contiguous l → up_to (last_index (up_to n l)) l ≡ up_to n l
up_to_its_end n l r = go (cases_lt (last_index l) n)
  where
    go : (last_index l < n) ⊎ (n ≤ last_index l) → up_to (last_index (up_to n l)) l ≡ up_to n l
    go (inl p) = rw (up_to_all n l (omega arith)) (up_to_all (last_index l) l (omega arith))
    go (inr p) = ap (λ y. up_to y l) (last_of_up_to n l r p)

pub entry_exists : (n : ℕ) (l : List Entry) → Contiguous l → 1 ≤ n → n ≤ last_index l → (x : Entry) × (entry_at n l ≡ x ∷ [])
unfolding entry_at
entry_exists n [] r h k = absurd (omega arith)
entry_exists n (e ∷ es) r h k =
    bool_by (λ b. (x : Entry) × (pick b (e ∷ []) (pick (ltb e.index n) [] (entry_at n es)) ≡ x ∷ [])) (eqb e.index n)
    (λ q. (e, refl))
    (λ q. let i = contiguous_last es r.1 in
    let low : n ≤ last_index es = grind (arith, nat_tests) in
    let p = entry_exists n es r.1 h low in
    (p.0, (let there = p.1 in grind (arith, nat_tests))))

pub entry_deeper : (n : ℕ) (e x : Entry) (es : List Entry) → Contiguous (e ∷ es) → entry_at n es ≡ x ∷ [] → entry_at n (e ∷ es) ≡ x ∷ []
unfolding entry_at
entry_deeper n e x es r h =
    let p = r.0 in
    let f = entry_within n es x h in
    let k = contiguous_last es r.1 in
    grind (arith, nat_tests)

-- a log that agrees up to n with a contiguous one that reaches n, reaches n
pub agree_reaches : (n : ℕ) (a b : List Entry) → Contiguous b → n ≤ last_index b → up_to n a ≡ up_to n b → n ≤ last_index a
agree_reaches zero a b r h e = omega arith
agree_reaches (suc n) a b r h e =
    let p = entry_exists (suc n) b r (omega arith) h in
    entry_within (suc n) a p.0 (agree_entry (suc n) (suc n) a b (omega arith) e ∙ p.1)

-- ASCENDING LOGS

pub ascending_more : (l : List Entry) (t u : ℕ) → t ≤ u → Ascending l t → Ascending l u
ascending_more [] t u h r = tt
ascending_more (e ∷ es) t u h r = (r.0, omega arith, r.2)

pub ascending_last : (l : List Entry) (t : ℕ) → Ascending l t → last_term l ≤ t
ascending_last [] t r = omega arith
ascending_last (e ∷ es) t r = r.1

pub ascending_up_to : (n : ℕ) (l : List Entry) (t : ℕ) → Ascending l t → Ascending (up_to n l) t
unfolding up_to
ascending_up_to n [] t r = tt
ascending_up_to n (e ∷ es) t r =
    bool_by (λ b. Ascending (pick b (e ∷ es) (up_to n es)) t) (leb e.index n)
    (λ q. r)
    (λ q. ascending_up_to n es t (ascending_more es e.term t r.1 r.2))

pub entry_term : (n : ℕ) (l : List Entry) (t : ℕ) (x : Entry)
    → Ascending l t → entry_at n l ≡ x ∷ [] → (1 ≤ x.term) × (x.term ≤ last_term l)
unfolding entry_at
entry_term n [] t x r e = grind (arith, nat_tests)
entry_term n (y ∷ ys) t x r e = let ih = entry_term n ys y.term x r.2 in grind (arith, nat_tests)

-- WHAT IS ABOVE, AND ENTRIES ON TOP

pub above_up_to : (i : ℕ) (l : List Entry) → Contiguous l → above i l ++ up_to i l ≡ l
unfolding above up_to
above_up_to i [] r = refl
above_up_to i (e ∷ es) r =
    bool_by (λ b. pick b (e ∷ above i es) [] ++ pick (leb e.index i) (e ∷ es) (up_to i es) ≡ e ∷ es) (ltb i e.index)
    (λ q. let z : leb e.index i ≡ false = grind (arith, nat_tests) in rw z (ap (λ y. e ∷ y) (above_up_to i es r.1)))
    (λ q. let z : leb e.index i ≡ true = grind (arith, nat_tests) in rw z)

pub above_length : (i : ℕ) (l : List Entry) → Contiguous l → i ≤ last_index l → i + length (above i l) ≡ last_index l
unfolding above
above_length i [] r h = omega arith
above_length i (e ∷ es) r h =
    let p = r.0 in
    let ih = above_length i es r.1 in
    let k = contiguous_last es r.1 in
    grind (arith, nat_tests)

pub above_some : (i : ℕ) (l : List Entry) → 0 < length (above i l) → i < last_index l
unfolding above
above_some i [] h = absurd (omega arith)
above_some i (e ∷ es) h = grind (arith, nat_tests)

pub last_of_row : (i : ℕ) (e : Entry) (es : List Entry) → in_a_row i (e ∷ es) ≡ true → last_index (e ∷ es) ≡ i + length (e ∷ es)
unfolding in_a_row
last_of_row i e es h = let p = (and_parts (eqb e.index (suc (i + length es))) (in_a_row i es) h).0 in grind (arith, nat_tests)

pub entry_on_top : (e : Entry) (es l : List Entry) → entry_at (last_index (e ∷ es)) ((e ∷ es) ++ l) ≡ e ∷ []
unfolding entry_at
entry_on_top e es l = grind (arith, nat_tests)
