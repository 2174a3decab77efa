-- Numbers and their bytes, the highest first: lengths, bounds, and that each is read back from the other.
use Rattle.std.proofs.Common.{◌≡◌, ℕ, zero, suc, ◌+◌, ◌*◌, ◌/◌, ◌%◌, ◌^◌, ◌<◌, ◌≤◌, List, [], ◌∷◌, ◌++◌, length, get_or, take, drop, sym, refl, ap, mul_assoc, mul_comm, pow-suc, arith}
use lib.Arith.{digits_lt, digits_div}
use native.Mathlib.Nat.{pow-zero, mul-add-div_right}
use Rattle.texts.specs.Words.{All, Byte, number_be, bytes_be}

-- the first n bytes of t, and zeros after its end
unfoldable pub padded : ℕ → List ℕ → List ℕ
padded zero t = []
padded (suc n) t = get_or t 0 0 ∷ padded n (drop 1 t)

pub all_drop : {A : Type 0} (P : A → Type 0) (n : ℕ) (xs : List A) → All P xs → All P (drop n xs)
all_drop P zero xs a = a
all_drop P (suc n) [] a = tt
all_drop P (suc n) (x ∷ xs) a = all_drop P n xs a.1

pub all_take : {A : Type 0} (P : A → Type 0) (n : ℕ) (xs : List A) → All P xs → All P (take n xs)
all_take P zero xs a = tt
all_take P (suc n) [] a = tt
all_take P (suc n) (x ∷ xs) a = (a.0, all_take P n xs a.1)

pub first_byte : (t : List ℕ) → All Byte t → get_or t 0 0 < 256
first_byte [] a = omega arith
first_byte (b ∷ t) a = a.0

pub length_bytes_be : (n x : ℕ) → length (bytes_be n x) ≡ n
unfolding bytes_be
length_bytes_be zero x = refl
length_bytes_be (suc n) x = ap suc (length_bytes_be n x)

pub length_padded : (n : ℕ) (t : List ℕ) → length (padded n t) ≡ n
unfolding padded
length_padded zero t = refl
length_padded (suc n) t = ap suc (length_padded n (drop 1 t))

pub power_pos : (n : ℕ) → 0 < 256 ^ n
power_pos zero = let z = pow-zero 256 in omega arith
power_pos (suc n) = let p = pow-suc 256 n in let i = power_pos n in omega arith

pub number_below : (n : ℕ) (t : List ℕ) → All Byte t → number_be n t < 256 ^ n
unfolding number_be
number_below zero t a = let z = pow-zero 256 in omega arith
number_below (suc n) t a =
    let p = pow-suc 256 n in
    let c = mul_comm 256 (256 ^ n) in
    let d = digits_lt {m = 256} (first_byte t a) (number_below n (drop 1 t) (all_drop Byte 1 t a)) in omega arith

-- higher digits don't count
bytes_add : (n k m : ℕ) → bytes_be n (k * 256 ^ n + m) ≡ bytes_be n m
unfolding bytes_be
bytes_add zero k m = refl
bytes_add (suc n) k m =
    let p : k * 256 ^ suc n ≡ k * 256 * 256 ^ n = rw (pow-suc 256 n, mul_comm (256 ^ n) 256) (sym (mul_assoc k 256 (256 ^ n))) in
    let q : (k * 256 * 256 ^ n + m) / 256 ^ n ≡ k * 256 + m / 256 ^ n = mul-add-div_right (power_pos n) (k * 256) m in
    let r : (k * 256 + m / 256 ^ n) % 256 ≡ m / 256 ^ n % 256 = omega arith in
    rw (p, q, r, bytes_add n (k * 256) m) refl

pub bytes_back : (n : ℕ) (t : List ℕ) → All Byte t → bytes_be n (number_be n t) ≡ padded n t
unfolding bytes_be number_be padded
bytes_back zero t a = refl
bytes_back (suc n) t a =
    let b = first_byte t a in
    let l = number_below n (drop 1 t) (all_drop Byte 1 t a) in
    let d : (get_or t 0 0 * 256 ^ n + number_be n (drop 1 t)) / 256 ^ n ≡ get_or t 0 0 = digits_div (get_or t 0 0) l in
    let m : get_or t 0 0 % 256 ≡ get_or t 0 0 = omega arith in
    rw (d, m, bytes_add n (get_or t 0 0) (number_be n (drop 1 t)), bytes_back n (drop 1 t) (all_drop Byte 1 t a)) refl

drop_suc : (a : ℕ) (t : List ℕ) → drop a (drop 1 t) ≡ drop (suc a) t
drop_suc zero [] = refl
drop_suc (suc a) [] = refl
drop_suc a (x ∷ t) = refl

pub padded_add : (a b : ℕ) (t : List ℕ) → padded (a + b) t ≡ padded a t ++ padded b (drop a t)
unfolding padded
padded_add zero b t = let z : 0 + b ≡ b = omega arith in rw z refl
padded_add (suc a) b t =
    let z : suc a + b ≡ suc (a + b) = omega arith in
    rw (z, padded_add a b (drop 1 t), drop_suc a t) refl

pub padded_back : (n : ℕ) (t : List ℕ) → length t ≤ n → take (length t) (padded n t) ≡ t
unfolding padded
padded_back zero [] h = refl
padded_back zero (x ∷ t) h = absurd (omega arith)
padded_back (suc n) [] h = refl
padded_back (suc n) (x ∷ t) h = ap (λ (ys : List ℕ). x ∷ ys) (padded_back n t (omega arith))
