-- Tables with a place for each server: `many` makes one, `set_at` writes a place, `nth` reads one.
use Rattle.std.proofs.Common.{◌≡◌, ℕ, zero, suc, List, [], ◌∷◌, length, sym, refl, ap, subst}
use Rattle.servers.specs.Server.{many, nth, set_at}

pub length_many : {A : Type 0} (n : ℕ) (a : A) → length (many n a) ≡ n
unfolding many
length_many zero a = refl
length_many (suc n) a = ap suc (length_many n a)

pub length_set_at : {A : Type 0} (xs : List A) (n : ℕ) (a : A) → length (set_at xs n a) ≡ length xs
unfolding set_at
length_set_at [] n a = refl
length_set_at (x ∷ xs) zero a = refl
length_set_at (x ∷ xs) (suc n) a = ap suc (length_set_at xs n a)

pub nth_many : {A : Type 0} (n : ℕ) (d : A) (j : ℕ) → nth d (many n d) j ≡ d
unfolding many nth
nth_many zero d j = refl
nth_many (suc n) d zero = refl
nth_many (suc n) d (suc j) = nth_many n d j

-- what holds of all places and of what is written holds of all places afterwards
pub nth_set_by : {A : Type 0} (P : ℕ → A → Type 0) (d : A) (xs : List A) (n : ℕ) (a : A)
    → P n a → ((j : ℕ) → P j (nth d xs j)) → (j : ℕ) → P j (nth d (set_at xs n a) j)
unfolding set_at nth
nth_set_by P d [] n a p h j = h j
nth_set_by P d (x ∷ xs) zero a p h zero = p
nth_set_by P d (x ∷ xs) zero a p h (suc j) = h (suc j)
nth_set_by P d (x ∷ xs) (suc n) a p h zero = h 0
nth_set_by P d (x ∷ xs) (suc n) a p h (suc j) = nth_set_by (λ j. P (suc j)) d xs n a p (λ j. h (suc j)) j

-- and what holds of the default holds in all of a new table
pub nth_many_by : {A : Type 0} (P : ℕ → A → Type 0) (n : ℕ) (d : A) → ((j : ℕ) → P j d) → (j : ℕ) → P j (nth d (many n d) j)
nth_many_by P n d h j = subst (P j) (sym (nth_many n d j)) (h j)
