-- What the front promises of one event: the memory and the answer's bytes, by the definitions. Assumes nothing: these are
-- definitions.
use Rattle.std.specs.Prelude.{◌≡◌, ℕ, ◌+◌, ◌*◌, ◌≤◌, List, ◌++◌, length, take}
use Rattle.servers.specs.Server.{Event, Letter, Limits, State, Answer, does}
use Rattle.servers.specs.Server.{settles, sent_now, sends_now, tell_all, dues, after_all, after, answer}
use Rattle.wire.specs.Write.{write_answer}
use Rattle.wire.specs.Read.{read_event}
use Rattle.wire_write.specs.Answers.{answer_of, means_answer}
use Rattle.wire_write.specs.declared.answer.Answer as code
use Rattle.state.specs.Memory.{Turns, limits_of, region_in, room_in, state_of}
use Rattle.state.specs.declared.words.Memory.{Memory}
use Rattle.memory.specs.Program.{serves, region_all, region_after, called, says}
use Rattle.state.specs.Held as held
use Rattle.server.specs.Reached.{Reached}

-- ys is xs with these bytes at its front; what stands after them is of no account
pub record Begins (bs xs ys : List ℕ) : Type 0 where
  pub long : length ys ≡ length xs
  pub within : length bs ≤ length ys
  pub front : take (length bs) ys ≡ bs

-- settled, sent and applied: the answer, if these letters go first
abbrev pub finish_answer : Limits → State → List Letter → Answer
finish_answer l s ls =
    does (tell_all l (sent_now (settles l s)) (dues (sent_now (settles l s)))) (ls ++ sends_now l (settles l s))

abbrev pub region_finished : Limits → State → List ℕ → List ℕ
region_finished l s r = region_all (sent_now (settles l s)) (dues (sent_now (settles l s))) r

-- from the memory after an event's first step to the end of the event
pub record Finished (m : Memory) (xs : List ℕ) (m' : Memory) (ys : List ℕ) (ls : List Letter) (r : code.Answer) : Type 0 where
  pub turns : Turns m m' (after_all (limits_of m) (state_of m)) (region_finished (limits_of m) (state_of m) (region_in m))
  pub answer_is : r ≡ answer_of (finish_answer (limits_of m) (state_of m) ls)
  pub bytes : Begins (write_answer (finish_answer (limits_of m) (state_of m) ls)) xs ys

-- an event of the definitions, from memory to memory, with its answer
pub record Answered (m : Memory) (xs : List ℕ) (m' : Memory) (ys : List ℕ) (e : Event) (r : code.Answer) : Type 0 where
  pub turns : Turns m m' (after (limits_of m) (state_of m) e) (region_after (limits_of m) (state_of m) e (region_in m))
  pub answer_is : r ≡ answer_of (answer (limits_of m) (state_of m) e)
  pub bytes : Begins (write_answer (answer (limits_of m) (state_of m) e)) xs ys

-- there is room for this answer, and for as much as could be told
pub record Room (m : Memory) (a : Answer) (n : ℕ) : Type 0 where
  pub answer : length (write_answer a) ≤ n
  pub told : 17 + 546 * room_in m ≤ n

abbrev pub RoomFor : Memory → Event → ℕ → Type 0
RoomFor m e n = Room m (answer (limits_of m) (state_of m) e) n

-- THE PROMISE OF A STEP, over the bytes of an event: the memory is what the program of the promises leaves, the answer is what it
-- says, and stands in the bytes
pub record Stepped (m bs xs m' ys : List ℕ) (r : code.Answer) : Type 0 where
  pub memory : m' ≡ called serves m (read_event bs)
  pub answer_is : r ≡ answer_of (says serves m (read_event bs))
  pub bytes : Begins (write_answer (says serves m (read_event bs))) xs ys
  pub means : means_answer ys r ≡ says serves m (read_event bs)

-- a memory that was reached is held, and holds the limits that it was opened with
abbrev pub ReachedHolds : Type 0
ReachedHolds = (l : Limits) (m : List ℕ) → Reached l m → held.Held m × (held.limits_of m ≡ l)
