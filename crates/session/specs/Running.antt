-- What a session promises: memory and answers' records, by the events of the records that were taken. Assumes nothing: these are
-- definitions.
use Rattle.std.specs.Prelude.{◌≡◌, ℕ, ◌+◌, ◌<◌, ◌≤◌, true, List, [], ◌∷◌, ◌++◌, length, take, drop}
use Rattle.wire.specs.Read.{got, read_event, read_text}
use Rattle.wire_read.specs.Got.{is_got}
use Rattle.wire.specs.Write.{write_answer, write_record}
use Rattle.memory.specs.Program.{serves, called, says}
use Rattle.state.specs.Held.{limits_of}
use Rattle.server.specs.Reached.{Reached}
use Rattle.session.specs.declared.run.Taken.{Taken}

-- the record of the answer to an event's bytes
abbrev pub answer_record : List ℕ → List ℕ → List ℕ
answer_record m bs = write_record (write_answer (says serves m (read_event bs)))

-- one event: the memory after it, and its answer's record at a place; what stands before it is as it was
pub record RanOne (m bs xs : List ℕ) (at : ℕ) (m' ys : List ℕ) (r : ℕ) : Type 0 where
  pub memory : m' ≡ called serves m (read_event bs)
  pub next : r ≡ at + length (answer_record m bs)
  pub room : r ≤ length ys
  pub long : length ys ≡ length xs
  pub front : take r ys ≡ take at xs ++ answer_record m bs
  pub reached : Reached (limits_of m') m'
  pub limits : limits_of m' ≡ limits_of m

-- memory after the events of these bytes, and the records of their answers; the last event first
unfoldable pub memory_after : List ℕ → List (List ℕ) → List ℕ
memory_after m [] = m
memory_after m (b ∷ bs) = called serves (memory_after m bs) (read_event b)

unfoldable pub answers_of : List ℕ → List (List ℕ) → List ℕ
answers_of m [] = []
answers_of m (b ∷ bs) = answers_of m bs ++ answer_record (memory_after m bs) b

-- records of these stand one after the other, up to a place
unfoldable pub Stand : List ℕ → ℕ → List (List ℕ) → Type 0
Stand rs at [] = at ≡ 0
Stand rs at (b ∷ bs) = (k : ℕ) × (Stand rs k bs × (read_text (drop k rs) ≡ got b (drop at rs)))

-- THE PROMISE OF A SESSION: these events were taken, the memory is the program's after all of them, and their answers' records stand
-- at the front of the bytes
pub record Ran (m rs xs m' ys : List ℕ) (t : Taken) : Type 0 where
  pub events : List (List ℕ)
  pub stand : Stand rs t.read events
  pub within : t.read ≤ length rs
  pub memory : m' ≡ memory_after m events
  pub answers : take t.written ys ≡ answers_of m events
  pub room : t.written ≤ length ys
  pub long : length ys ≡ length xs
  pub reached : Reached (limits_of m') m'
  pub limits : limits_of m' ≡ limits_of m

-- and no more could be taken: where a whole record is left, the bytes have no room for the record of a longest answer
abbrev pub Ended : List ℕ → ℕ → ℕ → Taken → Type 0
Ended rs n size t = is_got (read_text (drop t.read rs)) ≡ true → n < t.written + size
