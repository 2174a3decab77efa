-- What a group keeps of what happened: two journals of bytes, which only grow. In the one stands each event, with the server that
-- it came to; in the other each answer. `world_in` reads them. Assumes nothing: these are definitions and statements.
use Rattle.std.specs.Prelude.{◌≡◌, ℕ, zero, suc, ◌+◌, Bool, true, ◌&&◌, List, [], ◌∷◌, ◌++◌, length, take}
use Rattle.servers.specs.Server.{Event, Answer}
use Rattle.servers.specs.World.{Group, World, new_world, letters, from, says_now, happens}
use Rattle.servers.specs.Promise.{bytes, eight}
use Rattle.wire.specs.Write.{write_text, write_answer}
use Rattle.wire.specs.Read.{Read, got, stuck, and_then, read_byte, read_text, read_answer, read_event}
use Rattle.wire.specs.Answers.{fine_answer}
use Rattle.memory.specs.Program.{server}

-- an event as it came: to which server, and its bytes
pub record Came : Type 0 where
  pub at : ℕ
  pub bytes : List ℕ

-- a byte for the server, then the bytes as a text
abbrev pub write_came : ℕ → List ℕ → List ℕ
write_came i bs = i ∷ write_text bs

unfoldable pub read_came : List ℕ → Read Came
read_came xs = and_then (read_byte xs) (λ i r. and_then (read_text r) (λ bs z. got (record { at = i; bytes = bs }) z))

-- the world with one more happening
abbrev pub with_happening : World → ℕ → Event → Answer → World
with_happening w i e a = record { past = record { at = i; event = e; answer = a } ∷ w.past; sent = w.sent ++ from i (letters a) }

-- what was read goes into the world; where nothing can be read, that's all
abbrev pub go_on : Read Came → Read Answer → World → (List ℕ → List ℕ → World → World) → World
go_on (got c es) (got a as') w f = f es as' (with_happening w c.at (read_event c.bytes) a)
go_on (got c es) (stuck k) w f = w
go_on (stuck k) r w f = w

-- so many happenings from the front of the journals, on top of a world
unfoldable pub replay : ℕ → List ℕ → List ℕ → World → World
replay zero es as' w = w
replay (suc n) es as' w = go_on (read_came es) (read_answer as') w (λ es' as'' w'. replay n es' as'' w')

-- THE WORLD that the journals tell of, by how many happenings there are: what stands after those is of no account
abbrev pub world_in : ℕ → List ℕ → List ℕ → World
world_in n events answers = replay n events answers new_world

-- a happening in bytes: an event that came, and its answer
pub record Kept : Type 0 where
  pub came : Came
  pub answer : Answer

abbrev pub fine_kept : Kept → Bool
fine_kept k = (bytes k.came.bytes && eight (length k.came.bytes)) && fine_answer k.answer

unfoldable pub all_fine_kept : List Kept → Bool
all_fine_kept [] = true
all_fine_kept (k ∷ ks) = fine_kept k && all_fine_kept ks

-- the journals of happenings, the first first
unfoldable pub events_of : List Kept → List ℕ
events_of [] = []
events_of (k ∷ ks) = write_came k.came.at k.came.bytes ++ events_of ks

unfoldable pub answers_of : List Kept → List ℕ
answers_of [] = []
answers_of (k ∷ ks) = write_answer k.answer ++ answers_of ks

-- their world, on top of another
unfoldable pub world_of : World → List Kept → World
world_of w [] = w
world_of w (k ∷ ks) = world_of (with_happening w k.came.at (read_event k.came.bytes) k.answer) ks

-- so many happenings, whose bytes are these fronts of the journals
pub record Journals (n e a : ℕ) (events answers : List ℕ) : Type 0 where
  pub kept : List Kept
  pub count : n ≡ length kept
  pub fine : all_fine_kept kept ≡ true
  pub events_end : e ≡ length (events_of kept)
  pub events_are : take e events ≡ events_of kept
  pub answers_end : a ≡ length (answers_of kept)
  pub answers_are : take a answers ≡ answers_of kept

-- new journals tell of the new world
abbrev pub JournalsOpen : Type 0
JournalsOpen = (events answers : List ℕ) → Journals 0 0 0 events answers × (world_in 0 events answers ≡ new_world)

-- what is in the journals is read back
abbrev pub JournalsTell : Type 0
JournalsTell =
    (n e a : ℕ) (events answers : List ℕ) (j : Journals n e a events answers) → world_in n events answers ≡ world_of new_world j.kept

-- from journals to journals with one more happening, whose bytes stand after the others
pub record Grows (e a : ℕ) (xs ys : List ℕ) (i : ℕ) (bs : List ℕ) (r : Answer) (xs' ys' : List ℕ) : Type 0 where
  pub fits : (bytes bs && eight (length bs)) ≡ true
  pub fine : fine_answer r ≡ true
  pub came : take (e + length (write_came i bs)) xs' ≡ take e xs ++ write_came i bs
  pub answered : take (a + length (write_answer r)) ys' ≡ take a ys ++ write_answer r

-- ONE MORE HAPPENING: the journals go on, and the world that they tell of has it on top
abbrev pub JournalsGrow : Type 0
JournalsGrow =
    (n e a : ℕ) (xs ys : List ℕ) (i : ℕ) (bs : List ℕ) (r : Answer) (xs' ys' : List ℕ) → Journals n e a xs ys
    → Grows e a xs ys i bs r xs' ys'
    → Journals (suc n) (e + length (write_came i bs)) (a + length (write_answer r)) xs' ys'
    × (world_in (suc n) xs' ys' ≡ with_happening (world_in n xs ys) i (read_event bs) r)

-- and if the answer is the program's, it is what happens by the definitions
abbrev pub GrownHappens : Type 0
GrownHappens =
    (g : Group) (n e a : ℕ) (xs ys : List ℕ) (i : ℕ) (bs : List ℕ) (r : Answer) (xs' ys' : List ℕ) → Journals n e a xs ys
    → Grows e a xs ys i bs r xs' ys' → r ≡ says_now server g (world_in n xs ys) i (read_event bs)
    → world_in (suc n) xs' ys' ≡ happens server g (world_in n xs ys) i (read_event bs)
