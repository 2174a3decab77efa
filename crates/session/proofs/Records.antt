-- An answer's record: the answer is written past the room for its length, and then its length.
use Rattle.std.proofs.Common.{◌≡◌, ℕ, ◌+◌, ◌-◌, ◌≤◌, List, ◌++◌, length, take, drop, sym, ap, ◌∙◌, subst, arith}
use borrow.Rule.Slice.PartMut.{put_mid}
use Rattle.std.proofs.lemmas.List.{append_assoc, length-append, length-drop, take_at, drop_at, length-take-le, take-append-drop}
use Rattle.std.proofs.lemmas.Slice.{take-put_mid_below}
use Rattle.servers.specs.Server as server
use Rattle.wire.specs.Write.{write_number, write_record, write_answer}
use Rattle.wire_write.specs.Answers.{answer_length}
use Rattle.wire_write.specs.Put.{Writes}
use Rattle.wire_write.specs.declared.answer.Answer.{Answer}
use Rattle.wire_write.proofs.Answering.{length_answer}
use Rattle.wire_write.proofs.Putting.{length_put}
use Rattle.wire_write.proofs.Texts.{length_number}
use Rattle.wire.specs.Read.{read_event}
use Rattle.memory.specs.Program.{serves, says}
use Rattle.state.specs.Held.{limits_of}
use Rattle.server.specs.Reached.{Reached}
use Rattle.server.specs.Answered.{Stepped}
use Rattle.session.specs.Running.{RanOne}

-- the answer stands in a part from at + 8 on, then its length is written before it
pub recorded : (at k n : ℕ) (xs ys bs zs : List ℕ) (r : ℕ) → at + 8 ≤ length xs → take (length bs) ys ≡ bs → n ≡ length bs
    → Writes at (write_number n) (put_mid (at + 8) k xs ys) zs r → take (at + 8 + length bs) zs ≡ take at xs ++ write_record bs
recorded at k n xs ys bs zs r h e q w =
    let a : ℕ = at + 8 in
    let d : List ℕ = drop (length bs) ys in
    let rest : List ℕ = drop k (drop a xs) in
    let num : List ℕ = write_number (length bs) in
    let whole : ys ≡ bs ++ d = sym (ap (λ (z : List ℕ). z ++ d) (sym e) ∙ take-append-drop (length bs) ys) in
    let eight : length (write_number n) ≡ 8 = length_number n in
    let low : take at (put_mid a k xs ys) ≡ take at xs = take-put_mid_below a k xs ys at (omega arith) h in
    let past : drop a (put_mid a k xs ys) ≡ ys ++ rest = drop_at (take a xs) (ys ++ rest) a (length-take-le a xs h) in
    let l = length-append num bs in
    let m = length_number (length bs) in
    let f = length-take-le at xs (omega arith) in
    let g = length-append (take at xs) (num ++ bs) in
    let all : zs ≡ (take at xs ++ (num ++ bs)) ++ (d ++ rest) =
    w.bytes
    ∙ (ap (λ (z : List ℕ). z ++ (write_number n ++ drop (at + length (write_number n)) (put_mid a k xs ys))) low
    ∙ (ap (λ (i : ℕ). take at xs ++ (write_number n ++ drop (at + i) (put_mid a k xs ys))) eight
    ∙ (ap (λ (z : List ℕ). take at xs ++ (write_number n ++ z)) past
    ∙ (ap (λ (i : ℕ). take at xs ++ (write_number i ++ (ys ++ rest))) q
    ∙ (ap (λ (z : List ℕ). take at xs ++ (num ++ (z ++ rest))) whole ∙ simp append_assoc))))) in
    ap (take (a + length bs)) all ∙ take_at (take at xs ++ (num ++ bs)) (d ++ rest) (a + length bs) (omega arith)

pub length_recorded : (at k n : ℕ) (xs ys zs : List ℕ) (r : ℕ) → at + 8 ≤ length xs → k ≡ length xs - (at + 8) → length ys ≡ k
    → Writes at (write_number n) (put_mid (at + 8) k xs ys) zs r → length zs ≡ length xs
length_recorded at k n xs ys zs r h e q w =
    let a : ℕ = at + 8 in
    let rest : List ℕ = drop k (drop a xs) in
    let f = length-take-le a xs h in
    let g = length-append (take a xs) (ys ++ rest) in
    let j = length-append ys rest in
    let d = length-drop k (drop a xs) in
    let c = length-drop a xs in
    let next = w.next in
    let room = w.room in
    ap length w.bytes ∙ length_put at (write_number n) (put_mid a k xs ys) (omega arith) ∙ omega arith

-- one event, from what the step and the two writes did; the bytes are what the writer left
pub ran_one : {m bs xs part m' ys os zs : List ℕ} {at k len r : ℕ} {ans : Answer} → Stepped m bs part m' ys ans → at + 8 ≤ length xs
    → k ≡ length xs - (at + 8) → length ys ≡ k → len ≡ answer_length ans → zs ≡ os
    → Writes at (write_number len) (put_mid (at + 8) k xs ys) os r → Reached (limits_of m') m' → limits_of m' ≡ limits_of m
    → RanOne m bs xs at m' zs (at + 8 + len)
ran_one {m = m} {bs = bs} {xs = xs} {part = part} {m' = m'} {ys = ys} {zs = zs} {at = at} {k = k} {len = len} {r = r} {ans = ans}
    s h f g q e v x l =
    let w = subst (λ (z : List ℕ). Writes at (write_number len) (put_mid (at + 8) k xs ys) z r) (sym e) v in
    let a : server.Answer = says serves m (read_event bs) in
    let b : List ℕ = write_answer a in
    let n : len ≡ length b = q ∙ (ap answer_length s.answer_is ∙ length_answer a) in
    let fit = s.bytes.within in
    let long = length_recorded at k len xs ys zs r h f g w in
    let c = length-append (write_number (length b)) b in
    let d = length_number (length b) in
    record {
      memory = s.memory;
      next = omega arith;
      room = omega arith;
      long = long;
      front = ap (λ (i : ℕ). take (at + 8 + i) zs) n ∙ recorded at k len xs ys b zs r h s.bytes.front n w;
      reached = x;
      limits = l;
    }
