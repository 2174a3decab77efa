-- What the code's answer is: its number and values, how many bytes it has, and the answer of the definitions that it means with the
-- bytes that were written. Assumes nothing: these are definitions.
use Rattle.std.specs.Prelude.{◌≡◌, ℕ, true, List, [], ◌∷◌, ◌++◌, length, take, drop}
use Rattle.servers.specs.Server as server
use Rattle.wire.specs.Answers.{fine_answer}
use Rattle.wire.specs.Read.{Read, got, stuck, and_then, read_number, read_saids, read_letters}
use Rattle.wire.specs.Write.{write_answer}
use Rattle.wire_write.specs.declared.answer.Answer.{Answer}
use Rattle.wire_write.specs.declared.answer.Answer.TheVariants.{Refused, NotLeader, Does}

-- refused, doesn't lead, does
abbrev pub answer_number : Answer → ℕ
answer_number (Refused j k) = 0
answer_number NotLeader = 1
answer_number (Does n m len) = 2

-- refusal and place; none; how many are told, how many letters, how many bytes
abbrev pub answer_values : Answer → List ℕ
answer_values (Refused j k) = j ∷ (k ∷ [])
answer_values NotLeader = []
answer_values (Does n m len) = n ∷ (m ∷ (len ∷ []))

-- how many bytes it has
abbrev pub answer_length : Answer → ℕ
answer_length (Refused j k) = 10
answer_length NotLeader = 1
answer_length (Does n m len) = len

-- what is told, and the letters, by their counts; the first count stands after one byte
abbrev pub read_does : ℕ → ℕ → List ℕ → Read server.Answer
read_does n m out =
    and_then (read_saids n (drop 9 out)) (λ ss r.
    and_then (read_number r) (λ k r. and_then (read_letters m r) (λ ls r. got (server.does ss ls) r)))

abbrev pub as_answer : Read server.Answer → server.Answer
as_answer (got a r) = a
as_answer (stuck k) = server.not_leader

-- THE ANSWER of the code's answer, with the bytes of out
abbrev pub means_answer : List ℕ → Answer → server.Answer
means_answer out (Refused j k) = server.refused j k
means_answer out NotLeader = server.not_leader
means_answer out (Does n m len) = as_answer (read_does n m out)

-- the code's answer for one of the definitions
abbrev pub answer_of : server.Answer → Answer
answer_of (server.refused j k) = Refused j k
answer_of server.not_leader = NotLeader
answer_of (server.does ss ls) = Does (length ss) (length ls) (length (write_answer (server.does ss ls)))

-- an answer that was written, with the values that go with it, means itself
abbrev pub WrittenMeans : Type 0
WrittenMeans = (a : server.Answer) (rest : List ℕ) → fine_answer a ≡ true → means_answer (write_answer a ++ rest) (answer_of a) ≡ a

-- the bytes of an answer begin with its number
abbrev pub NumberFirst : Type 0
NumberFirst = (a : server.Answer) → take 1 (write_answer a) ≡ answer_number (answer_of a) ∷ []

-- its number and its values tell an answer from every other
abbrev pub ValuesTell : Type 0
ValuesTell = (a b : Answer) → answer_number a ≡ answer_number b → answer_values a ≡ answer_values b → a ≡ b
