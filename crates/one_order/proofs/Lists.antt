-- Helper lemmas on lists, which know nothing of commands or servers: one element set, and what holds of every entry.
use Rattle.std.proofs.Common.{◌≡◌, ℕ, zero, suc, ◌<◌, ltb, leb, List, [], ◌∷◌, ◌++◌, length, refl, ap, arith}
use Rattle.servers.specs.Server.{Entry, nth, set_at, up_to, above}
use Rattle.servers.proofs.Tests.{pick_by}

pub nth_set_same : {A : Type 0} (d : A) (xs : List A) (n : ℕ) (a : A) → n < length xs → nth d (set_at xs n a) n ≡ a
unfolding nth set_at
nth_set_same d [] n a h = absurd (omega arith)
nth_set_same d (x ∷ xs) zero a h = refl
nth_set_same d (x ∷ xs) (suc n) a h = nth_set_same d xs n a (omega arith)

pub nth_set_other : {A : Type 0} (d : A) (xs : List A) (n : ℕ) (a : A) (j : ℕ) → (j ≡ n → ⊥) → nth d (set_at xs n a) j ≡ nth d xs j
unfolding nth set_at
nth_set_other d [] n a j ne = refl
nth_set_other d (x ∷ xs) zero a zero ne = absurd (ne refl)
nth_set_other d (x ∷ xs) zero a (suc j) ne = refl
nth_set_other d (x ∷ xs) (suc n) a zero ne = refl
nth_set_other d (x ∷ xs) (suc n) a (suc j) ne = nth_set_other d xs n a j (λ e. ne (ap suc e))

-- what holds of every entry of a list
abbrev pub All : (Entry → Type 0) → List Entry → Type 0
All P [] = Unit {0}
All P (e ∷ es) = P e × All P es

pub all_more : (P Q : Entry → Type 0) → ((e : Entry) → P e → Q e) → (l : List Entry) → All P l → All Q l
all_more P Q f [] a = tt
all_more P Q f (e ∷ es) a = (f e a.0, all_more P Q f es a.1)

pub all_append : (P : Entry → Type 0) (xs ys : List Entry) → All P xs → All P ys → All P (xs ++ ys)
all_append P [] ys a b = b
all_append P (x ∷ xs) ys a b = (a.0, all_append P xs ys a.1 b)

pub all_up_to : (P : Entry → Type 0) (n : ℕ) (l : List Entry) → All P l → All P (up_to n l)
unfolding up_to
all_up_to P n [] a = tt
all_up_to P n (e ∷ es) a = pick_by (λ y. All P y) (leb e.index n) (e ∷ es) (up_to n es) (λ q. a) (λ q. all_up_to P n es a.1)

pub all_above : (P : Entry → Type 0) (n : ℕ) (l : List Entry) → All P l → All P (above n l)
unfolding above
all_above P n [] a = tt
all_above P n (e ∷ es) a = pick_by (λ y. All P y) (ltb n e.index) (e ∷ above n es) []
    (λ q. (a.0, all_above P n es a.1)) (λ q. tt)
