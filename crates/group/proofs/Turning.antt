-- A step in one part of a memory, its answer in one part of the bytes.
use Rattle.std.proofs.Common.{◌≡◌, ℕ, suc, ◌+◌, ◌-◌, ◌*◌, ◌<◌, ◌≤◌, ◌≢◌, ◌⊎◌, List, ◌++◌, length, take, drop, sym, ap, ◌∙◌, inl, inr, mul-le-mul_right, suc-mul, arith}
use borrow.Rule.Slice.PartMut.{put_mid}
use Rattle.std.proofs.lemmas.List.{append_assoc, length-append, length-drop, length-take-le, take_at, drop_at, take-append-drop, take_rest}
use Rattle.std.proofs.lemmas.Slice.{take-put_mid_below, drop-put_mid}
use Rattle.std.proofs.lemmas.Bool.{cases_order}
use Rattle.wire.specs.Write.{write_answer}
use Rattle.wire.specs.Read.{read_event}
use Rattle.wire.specs.Codec.{Slice}
use Rattle.wire_write.specs.declared.answer.Answer.{Answer}
use Rattle.memory.specs.Program.{serves, says}
use Rattle.group.specs.Parts.{part}
use Rattle.group.specs.Playing.{Turned}
use Rattle.server.specs.Answered.{Stepped}
use Rattle.group.proofs.Letters.{same_part}

-- the rest of a list from a place on
pub rest_long : (n : ℕ) (xs : List ℕ) → length (take (length xs - n) (drop n xs)) ≡ length xs - n
rest_long n xs = ap length (take_rest xs n) ∙ length-drop n xs

length_put : (a k : ℕ) (xs ys : List ℕ) → a + k ≤ length xs → length ys ≡ k → length (put_mid a k xs ys) ≡ length xs
length_put a k xs ys h e =
    let t = length-take-le a xs (omega arith) in
    let p = length-append (take a xs) (ys ++ drop k (drop a xs)) in
    let q = length-append ys (drop k (drop a xs)) in
    let r = length-drop k (drop a xs) in
    let s = length-drop a xs in
    omega arith

-- what stands in the part
pub part_put : (a k : ℕ) (xs ys : List ℕ) → a ≤ length xs → length ys ≡ k → take k (drop a (put_mid a k xs ys)) ≡ ys
part_put a k xs ys h e =
    ap (take k) (drop_at (take a xs) (ys ++ drop k (drop a xs)) a (length-take-le a xs h)) ∙ take_at ys (drop k (drop a xs)) k e

-- what stands before a place, and some of the part
front_put : (a k n : ℕ) (xs ys : List ℕ) → a ≤ length xs → n ≤ length ys → take (a + n) (put_mid a k xs ys) ≡ take a xs ++ take n ys
front_put a k n xs ys h low =
    let rest : List ℕ = drop k (drop a xs) in
    let f : List ℕ = take a xs in
    let split : ys ++ rest ≡ take n ys ++ (drop n ys ++ rest) =
    ap (λ (z : List ℕ). z ++ rest) (sym (take-append-drop n ys)) ∙ append_assoc (take n ys) (drop n ys) rest in
    let t = length-take-le a xs h in
    let u = length-take-le n ys low in
    let l = length-append f (take n ys) in
    ap (λ (z : List ℕ). take (a + n) (f ++ z)) split
    ∙ (ap (take (a + n)) (sym (append_assoc f (take n ys) (drop n ys ++ rest)))
    ∙ take_at (f ++ take n ys) (drop n ys ++ rest) (a + n) (omega arith))

-- parts are apart
below : (i j words : ℕ) → j < i → j * words + words ≤ i * words
below i j words h =
    let p : suc j * words ≤ i * words = mul-le-mul_right words (omega arith) in let q = suc-mul j words in omega arith

pub others : (words i j : ℕ) (m p : List ℕ) → i * words + words ≤ length m → length p ≡ words → j ≢ i
    → part words j (put_mid (i * words) words m p) ≡ part words j m
others words i j m p h e ne = so (cases_order j i)
  where
    so : (j ≡ i) ⊎ ((j < i) ⊎ (i < j)) → part words j (put_mid (i * words) words m p) ≡ part words j m
    so (inl q) = absurd (ne q)
    so (inr (inl q)) =
        same_part (i * words) (j * words) words m (put_mid (i * words) words m p) (below i j words q)
        (take-put_mid_below (i * words) words m p (i * words) (omega arith) (omega arith))
    so (inr (inr q)) = ap (take words) (drop-put_mid (i * words) words m p (j * words) (below j i words q) (omega arith) e)

pub turning :
    (words i at : ℕ) (bs m ys p q : List ℕ) (r : Answer) → i * words + words ≤ length m → at ≤ length ys
    → length ys < 18446744073709551616 → length p ≡ words → Slice bs
    → Stepped (part words i m) bs (take (length ys - at) (drop at ys)) p q r
    → Turned words i at bs m ys (put_mid (i * words) words m p) (put_mid at (length ys - at) ys q) r
turning words i at bs m ys p q r h low word e slice s =
    let w : List ℕ = write_answer (says serves (part words i m) (read_event bs)) in
    let long = s.bytes.long in
    let within = s.bytes.within in
    let rest = rest_long at ys in
    let all = length_put at (length ys - at) ys q (omega arith) (omega arith) in
    record {
      event = slice;
      there = part_put (i * words) words m p (omega arith) e ∙ s.memory;
      others = λ j ne. others words i j m p h e ne;
      long = length_put (i * words) words m p h e;
      answer_is = s.answer_is;
      within = omega arith;
      fits = omega arith;
      answered =
          front_put at (length ys - at) (length w) ys q low within ∙ ap (λ (z : List ℕ). take at ys ++ z) s.bytes.front;
    }
