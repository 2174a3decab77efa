-- An answer that was written, with the counts that go with it, means itself.
use Rattle.std.proofs.Common.{◌≡◌, ℕ, List, ◌++◌, length, drop, refl, arith}
use Rattle.std.proofs.lemmas.List.{append_assoc}
use Rattle.std.proofs.lemmas.Bool.{and_parts}
use Rattle.servers.specs.Server.{Answer, Entry, append, refused, not_leader, does}
use Rattle.wire.specs.Write.{write_answer, write_entries, write_letters, write_message, write_number, write_saids}
use Rattle.wire.proofs.Letters.{letters_back, saids_back}
use Rattle.wire.proofs.Numbers.{number}
use Rattle.wire_write.specs.Answers.{WrittenMeans, NumberFirst, ValuesTell, answer_length, answer_of}
use Rattle.wire_write.specs.declared.answer.Answer.TheVariants.{Refused, NotLeader, Does}
use Rattle.wire_write.specs.Heads.{append_head}

-- what stands after the first count
after_count : (n : ℕ) (bs : List ℕ) → drop 8 (write_number n ++ bs) ≡ bs
unfolding write_number
after_count n bs = refl

pub written_means : WrittenMeans
written_means (refused j k) rest f = refl
written_means not_leader rest f = refl
written_means (does ss ls) rest f =
    let p = and_parts _ _ f in
    let a = and_parts _ _ p.0 in
    let b = and_parts _ _ p.1 in
    rw (
      append_assoc (write_number (length ss)) (write_saids ss ++ (write_number (length ls) ++ write_letters ls)) rest,
      after_count (length ss) ((write_saids ss ++ (write_number (length ls) ++ write_letters ls)) ++ rest),
      append_assoc (write_saids ss) (write_number (length ls) ++ write_letters ls) rest,
      saids_back ss ((write_number (length ls) ++ write_letters ls) ++ rest) a.1,
      append_assoc (write_number (length ls)) (write_letters ls) rest,
      number.back (length ls) (write_letters ls ++ rest) b.0,
      letters_back ls rest b.1,
    )

pub length_answer : (a : Answer) → answer_length (answer_of a) ≡ length (write_answer a)
unfolding write_number
length_answer (refused j k) = refl
length_answer not_leader = refl
length_answer (does ss ls) = refl

pub number_first : NumberFirst
number_first (refused j k) = refl
number_first not_leader = refl
number_first (does ss ls) = refl

pub values_tell : ValuesTell
values_tell (Refused j k) (Refused x y) e v = cc
values_tell (Refused j k) NotLeader e v = absurd (omega arith)
values_tell (Refused j k) (Does x y z) e v = absurd (omega arith)
values_tell NotLeader (Refused x y) e v = absurd (omega arith)
values_tell NotLeader NotLeader e v = refl
values_tell NotLeader (Does x y z) e v = absurd (omega arith)
values_tell (Does n m len) (Refused x y) e v = absurd (omega arith)
values_tell (Does n m len) NotLeader e v = absurd (omega arith)
values_tell (Does n m len) (Does x y z) e v = cc

-- an append is its head and its entries
pub append_parts :
    (t i u c : ℕ) (es : List Entry) → append_head t i u c (length es) ++ write_entries es ≡ write_message (append t i u es c)
append_parts t i u c es = simp append_assoc
