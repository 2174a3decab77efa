-- What the code's steps leave: one word more, a padded last word, parts put together.
use Rattle.std.proofs.Common.{◌≡◌, ℕ, zero, suc, ◌+◌, ◌-◌, ◌*◌, ◌^◌, ◌<◌, ◌≤◌, Bool, true, false, ◌&&◌, eqb, List, [], ◌∷◌, ◌++◌, length, map, get_or, take, drop, set, replicate, sym, refl, ap, ◌∙◌, arith}
use borrow.Rule.Slice.PartMut.{put_mid}
use Rattle.std.proofs.lemmas.List.{length-take-le, append-nil, append_assoc, drop-drop, drop_all, take_at, take_more, drop_more, get_or-drop, take-append-drop, length-drop, take-append-le}
use Rattle.std.proofs.lemmas.Bool.Decides.{nat_tests}
use Rattle.std.specs.Simd.{first_chunks}
use Rattle.servers.specs.Store.{same_text}
use Rattle.texts.specs.Words.{number_be, bytes_be, cells, unpacked}
use Rattle.texts.specs.Order.{less_cells}
use Rattle.texts.proofs.Bytes.{length_bytes_be}
use Rattle.texts.proofs.Cells.{length_unpacked, cells_nil}

-- one digit of a number
number_drop : (n k : ℕ) (bs : List ℕ) → number_be (suc n) (drop k bs) ≡ get_or bs k 0 * 256 ^ n + number_be n (drop (k + 1) bs)
unfolding number_be
number_drop n k bs =
    let z : k + 0 ≡ k = omega arith in
    rw (get_or-drop k bs 0 0, z, drop-drop 1 k bs) refl

-- the sum that from_be_bytes gives
pub number_eight : (bs : List ℕ)
    → number_be 8 bs
    ≡ get_or bs 0 0 * 72057594037927936 + get_or bs 1 0 * 281474976710656 + get_or bs 2 0 * 1099511627776 + get_or bs 3 0 * 4294967296
    + get_or bs 4 0 * 16777216 + get_or bs 5 0 * 65536 + get_or bs 6 0 * 256 + get_or bs 7 0
unfolding number_be
number_eight bs =
    let a = number_drop 7 0 bs in let b = number_drop 6 1 bs in let c = number_drop 5 2 bs in let d = number_drop 4 3 bs in
    let e = number_drop 3 4 bs in let f = number_drop 2 5 bs in let g = number_drop 1 6 bs in let h = number_drop 0 7 bs in
    omega arith

pub number_take : (n : ℕ) (t : List ℕ) → number_be n (take n t) ≡ number_be n t
unfolding number_be
number_take zero t = refl
number_take (suc n) [] = refl
number_take (suc n) (x ∷ t) = rw (number_take n t) refl

number_zeros : (n k : ℕ) → number_be n (replicate k 0) ≡ number_be n []
unfolding number_be
number_zeros zero k = refl
number_zeros (suc n) zero = refl
number_zeros (suc n) (suc k) = rw (number_zeros n k) refl

-- zeros after the end don't count
pub number_padded : (n k : ℕ) (t : List ℕ) → number_be n (t ++ replicate k 0) ≡ number_be n t
unfolding number_be
number_padded zero k t = refl
number_padded (suc n) k [] = number_zeros (suc n) k
number_padded (suc n) k (x ∷ t) = rw (number_padded n k t) refl

-- the words of whole chunks of eight bytes
pub cells_whole : (k n : ℕ) (t : List ℕ) → k ≤ n → map (number_be 8) (take k (first_chunks 8 n t)) ≡ cells k t
unfolding cells
cells_whole zero n t h = refl
cells_whole (suc k) zero t h = absurd (omega arith)
cells_whole (suc k) (suc n) t h = rw (number_take 8 t, cells_whole k n (drop 8 t) (omega arith)) refl

-- the last word with bytes, and zeros after it
pub cells_short : (n : ℕ) (t : List ℕ) → 0 < n → length t < 8 → set (replicate n 0) 0 (number_be 8 t) ≡ cells n t
unfolding cells
cells_short zero t h k = absurd (omega arith)
cells_short (suc n) t h k = rw (drop_all 8 t (omega arith), cells_nil n) refl

pub zeros_are : (n : ℕ) → 0 < n → replicate n 0 ≡ 0 ∷ cells (n - 1) []
zeros_are zero h = absurd (omega arith)
zeros_are (suc n) h = let m : suc n - 1 ≡ n = omega arith in rw (m, cells_nil n) refl

-- how long `&s[a..]` is
pub long_from : {X : Type 0} (xs : List X) (a : ℕ) → length (take (length xs - a) (drop a xs)) ≡ length xs - a
long_from xs a = let d = length-drop a xs in length-take-le (length xs - a) (drop a xs) (omega arith)

-- a first word, and the rest of the row
pub head_and_rest : (v : ℕ) (xs ys zs : List ℕ) → 0 < length xs → ys ≡ zs → length ys ≡ length xs - 1
    → set (put_mid 1 (length xs - 1) xs ys) 0 v ≡ v ∷ zs
head_and_rest v [] ys zs h e l = absurd (omega arith)
head_and_rest v (x ∷ xs) ys zs h e l =
    let d : drop (suc (length xs) - 1) xs ≡ [] = drop_all (suc (length xs) - 1) xs (omega arith) in
    rw (d, append-nil ys, e) refl

-- words unpacked, one more, and the first of them
pub unpacked_append : (us vs : List ℕ) → unpacked (us ++ vs) ≡ unpacked us ++ unpacked vs
unfolding unpacked
unpacked_append [] vs = refl
unpacked_append (u ∷ us) vs =
    ap (λ (zs : List ℕ). bytes_be 8 u ++ zs) (unpacked_append us vs) ∙ sym (append_assoc (bytes_be 8 u) (unpacked us) (unpacked vs))

pub unpacked_more : (ws : List ℕ) (k : ℕ) → k < length ws → unpacked (take (k + 1) ws) ≡ unpacked (take k ws) ++ bytes_be 8 (get_or ws k 0)
unfolding unpacked
unpacked_more ws k h =
    rw (take_more ws k 0 h, unpacked_append (take k ws) (get_or ws k 0 ∷ []), append-nil (bytes_be 8 (get_or ws k 0))) refl

pub take_past : {X : Type 0} (xs ys : List X) (n k : ℕ) → length xs ≡ n → take (n + k) (xs ++ ys) ≡ xs ++ take k ys
take_past [] ys n k e = let z : n + k ≡ k = omega arith in rw z refl
take_past (x ∷ xs) ys zero k e = absurd (omega arith)
take_past (x ∷ xs) ys (suc n) k e =
    let z : suc n + k ≡ suc (n + k) = omega arith in rw (z, take_past xs ys n k (omega arith)) refl

-- the bytes of the first words, and of a part of the next
pub unpacked_front : (ws : List ℕ) (k : ℕ) → k ≤ length ws → take (8 * k) (unpacked ws) ≡ unpacked (take k ws)
unpacked_front ws k h =
    let l = length_unpacked (take k ws) in let m = length-take-le k ws h in
    let e : unpacked ws ≡ unpacked (take k ws) ++ unpacked (drop k ws) =
    ap unpacked (sym (take-append-drop k ws)) ∙ unpacked_append (take k ws) (drop k ws) in
    rw e (take_at (unpacked (take k ws)) (unpacked (drop k ws)) (8 * k) (omega arith))

pub unpacked_part : (ws : List ℕ) (k r : ℕ) → k < length ws → r ≤ 8
    → take (8 * k + r) (unpacked ws) ≡ unpacked (take k ws) ++ take r (bytes_be 8 (get_or ws k 0))
unfolding unpacked
unpacked_part ws k r h s =
    let l = length_unpacked (take k ws) in let m = length-take-le k ws (omega arith) in
    let b = length_bytes_be 8 (get_or ws k 0) in
    let d : unpacked (drop k ws) ≡ bytes_be 8 (get_or ws k 0) ++ unpacked (drop (k + 1) ws) = ap unpacked (drop_more ws k 0 h) in
    let e : unpacked ws ≡ unpacked (take k ws) ++ unpacked (drop k ws) =
    ap unpacked (sym (take-append-drop k ws)) ∙ unpacked_append (take k ws) (drop k ws) in
    rw e (take_past (unpacked (take k ws)) (unpacked (drop k ws)) (8 * k) r (omega arith)
    ∙ ap (λ (zs : List ℕ). unpacked (take k ws) ++ zs)
    (ap (take r) d ∙ take-append-le r (bytes_be 8 (get_or ws k 0)) (unpacked (drop (k + 1) ws)) (omega arith)))

-- a pair compared, and the pairs after it
pub less_here : (x y : ℕ) (xs ys us vs : List ℕ) (e : Bool) → us ≡ x ∷ xs → vs ≡ y ∷ ys → x < y → less_cells us vs e ≡ true
unfolding less_cells
less_here x y xs ys us vs e f g h = rw (f, g) (grind (arith, nat_tests))

pub less_not : (x y : ℕ) (xs ys us vs : List ℕ) (e : Bool) → us ≡ x ∷ xs → vs ≡ y ∷ ys → y < x → less_cells us vs e ≡ false
unfolding less_cells
less_not x y xs ys us vs e f g h = rw (f, g) (grind (arith, nat_tests))

pub less_next : (x y : ℕ) (xs ys us vs : List ℕ) (e : Bool) → us ≡ x ∷ xs → vs ≡ y ∷ ys → x ≡ y
    → less_cells us vs e ≡ less_cells xs ys e
unfolding less_cells
less_next x y xs ys us vs e f g h = rw (f, g) (grind (arith, nat_tests))

pub less_end : (us vs : List ℕ) (e : Bool) → us ≡ [] → less_cells us vs e ≡ e
unfolding less_cells
less_end us vs e f = rw f refl

pub same_next : (x y : ℕ) (xs ys us vs : List ℕ) (so : Bool) → us ≡ x ∷ xs → vs ≡ y ∷ ys
    → ((so && eqb x y) && same_text xs ys) ≡ (so && same_text us vs)
unfolding same_text
same_next x y xs ys us vs true f g = rw (f, g) refl
same_next x y xs ys us vs false f g = refl

pub same_end : (us vs : List ℕ) (so : Bool) → us ≡ [] → vs ≡ [] → so ≡ (so && same_text us vs)
unfolding same_text
same_end us vs true f g = rw (f, g) refl
same_end us vs false f g = refl
