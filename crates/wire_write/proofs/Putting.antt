-- Bytes written next to each other are one piece, whichever was written first.
use Rattle.std.proofs.Common.{◌≡◌, ℕ, suc, ◌+◌, ◌-◌, ◌≤◌, List, [], ◌∷◌, ◌++◌, length, take, drop, set, sym, refl, ap, ◌∙◌, subst, arith}
use borrow.Rule.Slice.PartMut.{put_mid}
use Rattle.std.proofs.lemmas.List.{append_assoc, drop_at, drop-drop, length-append, length-drop, length-take-le, set_split, take-append-drop, take-append-le, take_at, take-take}
use Rattle.wire_write.specs.Put.{put_at, Writes, Room, Wrote}
use Rattle.wire_write.specs.declared.writer.Writer.{Writer}

pub length_put : (at : ℕ) (bs xs : List ℕ) → at + length bs ≤ length xs → length (put_at at bs xs) ≡ length xs
length_put at bs xs h =
    let a = length-take-le at xs (omega arith) in
    let b = length-drop (at + length bs) xs in
    simp length-append (omega arith)

-- what stands before and after
pub take_put : (at : ℕ) (bs xs : List ℕ) → at + length bs ≤ length xs → take at (put_at at bs xs) ≡ take at xs
take_put at bs xs h = take_at (take at xs) (bs ++ drop (at + length bs) xs) at (length-take-le at xs (omega arith))

pub take_put_all : (at : ℕ) (bs xs : List ℕ) → at + length bs ≤ length xs → take (at + length bs) (put_at at bs xs) ≡ take at xs ++ bs
take_put_all at bs xs h =
    let a = length-take-le at xs (omega arith) in
    let l : length (take at xs ++ bs) ≡ at + length bs = simp length-append (omega arith) in
    rw (← append_assoc (take at xs) bs (drop (at + length bs) xs))
    (take_at (take at xs ++ bs) (drop (at + length bs) xs) (at + length bs) l)

pub drop_put :
    (at k : ℕ) (bs xs : List ℕ) → at + length bs ≤ length xs → drop (at + length bs + k) (put_at at bs xs) ≡ drop (at + length bs + k) xs
drop_put at k bs xs h =
    let a = length-take-le at xs (omega arith) in
    let n = at + length bs in
    let l : length (take at xs ++ bs) ≡ n = simp length-append (omega arith) in
    let e = drop_at (take at xs ++ bs) (drop n xs) n l in
    rw (← append_assoc (take at xs) bs (drop n xs), ← drop-drop k n ((take at xs ++ bs) ++ drop n xs), e) (drop-drop k n xs)

-- one piece after the other
put_then :
    (at : ℕ) (p q xs : List ℕ) → at + length p + length q ≤ length xs → put_at (at + length p) q (put_at at p xs) ≡ put_at at (p ++ q) xs
put_then at p q xs h =
    let a = take_put_all at p xs (omega arith) in
    let b = drop_put at (length q) p xs (omega arith) in
    let l = length-append p q in
    let m : at + length p + length q ≡ at + length (p ++ q) = omega arith in
    let c = append_assoc (take at xs) p (q ++ drop (at + length p + length q) xs) in
    rw (a, b, c, append_assoc p q (drop (at + length (p ++ q)) xs), m) refl

pub writes_then : {at n r : ℕ} {p q xs ys zs : List ℕ} → Writes at p xs ys n → Writes n q ys zs r → Writes at (p ++ q) xs zs r
writes_then {at = at} {n = n} {r = r} {p = p} {q = q} {xs = xs} {ys = ys} {zs = zs} u v =
    let l = length-append p q in
    let ly : length ys ≡ length xs = ap length u.bytes ∙ length_put at p xs (omega (arith, u.next, u.room)) in
    let e : n ≡ at + length p = u.next in
    let f : r ≡ n + length q = v.next in
    let g : r ≤ length ys = v.room in
    let t = put_then at p q xs (omega arith) in
    record {
      bytes = v.bytes ∙ (ap (λ k. put_at k q ys) e ∙ (ap (put_at (at + length p) q) u.bytes ∙ t));
      next = omega arith;
      room = omega arith;
    }

pub wrote_then : {p q : List ℕ} {u v w : Writer} → Wrote p u v → Wrote q v w → Wrote (p ++ q) u w
wrote_then a b = record { same = b.same ∙ a.same; writes = writes_then a.writes b.writes }

-- a piece before the one that stands there: a count that is known only after what it counts
put_before :
    (at : ℕ) (p q xs : List ℕ) → at + length p + length q ≤ length xs → put_at at p (put_at (at + length p) q xs) ≡ put_at at (p ++ q) xs
put_before at p q xs h =
    let n = at + length p in
    let a = length-take-le n xs (omega arith) in
    let t : take at (put_at n q xs) ≡ take at xs =
    take-append-le at (take n xs) (q ++ drop (n + length q) xs) (omega arith) ∙ take-take at n xs (omega arith) in
    let d = drop_at (take n xs) (q ++ drop (n + length q) xs) n a in
    let l = length-append p q in
    let m : n + length q ≡ at + length (p ++ q) = omega arith in
    rw (t, d, append_assoc p q (drop (at + length (p ++ q)) xs), m) refl

pub writes_before : {at n r : ℕ} {p q xs ys zs : List ℕ} → Writes n q xs ys r → Writes at p ys zs n → Writes at (p ++ q) xs zs r
writes_before {at = at} {n = n} {r = r} {p = p} {q = q} {xs = xs} {ys = ys} {zs = zs} v u =
    let l = length-append p q in
    let e : n ≡ at + length p = u.next in
    let f : r ≡ n + length q = v.next in
    let g : r ≤ length xs = v.room in
    let t = put_before at p q xs (omega arith) in
    record { bytes = u.bytes ∙ (ap (put_at at p) (v.bytes ∙ ap (λ k. put_at k q xs) e) ∙ t); next = omega arith; room = omega arith }

-- nothing is written
pub writes_none : (at : ℕ) (xs : List ℕ) → at ≤ length xs → Writes at [] xs xs at
writes_none at xs h =
    let z : at + 0 ≡ at = omega arith in
    record { bytes = sym (rw z (take-append-drop at xs)); next = omega arith; room = h }

-- one byte, and a part that was written over
pub writes_byte : (at x : ℕ) (xs : List ℕ) → at + 1 ≤ length xs → Writes at (x ∷ []) xs (set xs at x) (at + 1)
writes_byte at x xs h =
    let s : at + 1 ≡ suc at = omega arith in
    record { bytes = set_split xs at x (omega arith) ∙ rw s refl; next = refl; room = h }

pub writes_part :
    (at n : ℕ) (bs xs ys : List ℕ) → ys ≡ bs → length bs ≡ n → at + n ≤ length xs
    → Writes at bs xs (put_mid at ((at + n) - at) xs ys) (at + n)
writes_part at n bs xs ys e l h =
    let m : (at + n) - at ≡ n = omega arith in
    record { bytes = rw (e, m, l, ← drop-drop n at xs) refl; next = omega arith; room = h }

-- the same bytes in other words
pub writes_as : {at r : ℕ} {p q xs ys : List ℕ} → p ≡ q → Writes at p xs ys r → Writes at q xs ys r
writes_as {at = at} {r = r} {xs = xs} {ys = ys} e w = let P : List ℕ → Type 0 = λ z. Writes at z xs ys r in subst P e w

pub wrote_as : {p q : List ℕ} {v w : Writer} → p ≡ q → Wrote p v w → Wrote q v w
wrote_as {v = v} {w = w} e h = let P : List ℕ → Type 0 = λ z. Wrote z v w in subst P e h

-- no byte more or less is lent
pub length_wrote : {p : List ℕ} {v w : Writer} → Wrote p v w → length w.out.now ≡ length v.out.now
length_wrote {p = p} {v = v} a =
    let n = a.writes.next in
    let r = a.writes.room in
    ap length a.writes.bytes ∙ length_put v.at p v.out.now (omega arith)

-- where there is room for both there is for the first, and then for the second
pub room_first : (xs ys : List ℕ) (v : Writer) → Room (length (xs ++ ys)) v → Room (length xs) v
room_first xs ys v h = let l = length-append xs ys in omega arith

pub room_next : {xs : List ℕ} {v w : Writer} (ys : List ℕ) → Room (length (xs ++ ys)) v → Wrote xs v w → Room (length ys) w
room_next {xs = xs} ys h a =
    let l = length-append xs ys in
    let k = a.writes.next in
    let long = length_wrote a in
    omega arith

-- nothing is written
pub wrote_none : (v : Writer) → Room 0 v → Wrote [] v v
wrote_none v h = record { same = refl; writes = writes_none v.at v.out.now (omega arith) }
