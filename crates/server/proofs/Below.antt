-- Bytes as a slice has them: below 256 each, and not too many to count.
use Rattle.std.proofs.Common.{◌≡◌, ℕ, suc, ◌<◌, true, ltb, List, [], ◌∷◌, length, get_or, refl}
use Rattle.std.proofs.lemmas.Bool.{and_from, lt-ltb}
use Rattle.servers.specs.Promise.{all_below, bytes}
use Rattle.wire.specs.Codec.{Slice}

are_bytes : (xs : List ℕ) → ((i : ℕ) → get_or xs i 0 < 256) → bytes xs ≡ true
unfolding all_below
are_bytes [] h = refl
are_bytes (x ∷ xs) h = and_from (ltb x 256) (bytes xs) (lt-ltb x 256 (h 0)) (are_bytes xs (λ i. h (suc i)))

pub slice : (xs : List ℕ) → ((i : ℕ) → get_or xs i 0 < 256) → length xs < 18446744073709551616 → Slice xs
slice xs h l = (are_bytes xs h, l)
