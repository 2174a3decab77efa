-- A group that plays: what its memories hold from one happening to the next. Assumes nothing: these are definitions.
use Rattle.std.specs.Prelude.{◌≡◌, ℕ, suc, ◌+◌, ◌*◌, ◌<◌, ◌≤◌, Bool, true, false, ◌≢◌, List, ◌++◌, length, take, Ok, Err, Result}
use Rattle.servers.specs.Server.{Event, timeout, request, comes, restart, garbled}
use Rattle.servers.specs.World.{Group, World, limits, happens}
use Rattle.servers.specs.Promise.{GoodGroup}
use Rattle.wire.specs.Write.{write_answer}
use Rattle.wire.specs.Read.{read_event}
use Rattle.wire.specs.Codec.{Slice}
use Rattle.wire.specs.Sizes.{answer_size}
use Rattle.wire_write.specs.Answers.{answer_length, answer_of}
use Rattle.wire_write.specs.declared.answer.Answer as answers
use Rattle.memory.specs.Program.{serves, server, called, says}
use Rattle.group.specs.Journals.{Journals, world_in}
use Rattle.group.specs.Parts.{part, Parts, Alive}
use Rattle.group.specs.Explained.{Explained}
use Rattle.group.specs.declared.happen.Group as code
use Rattle.group.specs.declared.happen.Kept.{Kept}
use Rattle.group.specs.declared.happen.Denied.{Denied}
use Rattle.group.specs.declared.happen.Denied.TheVariants.{Server, Message, Events, Answers}

-- the group of the definitions
abbrev pub group_of : code.Group → Group
group_of p = record { events_can = serves; servers = p.servers; clients = p.clients; room = p.room }

-- the world that the journals tell of
abbrev pub world_of : Kept → List ℕ → List ℕ → World
world_of k events answers = world_in k.happenings events answers

-- WHAT A GROUP'S MEMORIES HOLD: a world that was lived, and each server's memory after what it saw
pub record Playing (p : code.Group) (k : Kept) (mems events answers : List ℕ) : Type 0 where
  pub good : GoodGroup serves (group_of p)
  pub longest : answer_size (limits (group_of p) 0) ≤ p.longest
  pub long : p.servers * p.words ≤ length mems
  pub journals : Journals k.happenings k.events k.answers events answers
  pub parts : Parts (group_of p) p.words mems (world_of k events answers)
  pub alive : Alive (group_of p) (world_of k events answers)

-- a step of one server, its answer at a place
pub record Turned (words i at : ℕ) (bs m ys m' ys' : List ℕ) (r : answers.Answer) : Type 0 where
  pub event : Slice bs
  pub there : part words i m' ≡ called serves (part words i m) (read_event bs)
  pub others : (j : ℕ) → j ≢ i → part words j m' ≡ part words j m
  pub long : length m' ≡ length m
  pub answer_is : r ≡ answer_of (says serves (part words i m) (read_event bs))
  pub within : at + length (write_answer (says serves (part words i m) (read_event bs))) ≤ length ys'
  pub fits : at + length (write_answer (says serves (part words i m) (read_event bs))) < 18446744073709551616
  pub answered :
      take (at + length (write_answer (says serves (part words i m) (read_event bs)))) ys'
      ≡ take at ys ++ write_answer (says serves (part words i m) (read_event bs))

-- and what is kept then
pub record TurnedOn (p : code.Group) (k : Kept) (i end : ℕ) (bs m ys m' ys' : List ℕ) (k' : Kept) : Type 0 where
  pub answer : answers.Answer
  pub turned : Turned p.words i k.answers bs m ys m' ys' answer
  pub happenings : k'.happenings ≡ suc k.happenings
  pub events : k'.events ≡ end
  pub answers : k'.answers ≡ k.answers + answer_length answer

-- THE PROMISE OF ONE HAPPENING: what the memories tell of afterwards is what happens by the definitions, it was lived, each server's
-- part is its memory after what it saw, and it is as if there were one server
pub record Played (p : code.Group) (k : Kept) (i : ℕ) (e : Event) (xs ys : List ℕ) (k' : Kept) (m' xs' ys' : List ℕ) : Type 0 where
  pub world : world_of k' xs' ys' ≡ happens server (group_of p) (world_of k xs ys) i e
  pub playing : Playing p k' m' xs' ys'
  pub explained : Explained (group_of p) (world_of k' xs' ys')

-- whether an event is a message from a server
abbrev pub from_server : Event → Bool
from_server timeout = false
from_server (request c k x) = false
from_server (comes h m) = true
from_server restart = false
from_server (garbled n) = false

-- why an event with these bytes is denied
abbrev pub Why : code.Group → Kept → ℕ → List ℕ → List ℕ → List ℕ → Denied → Type 0
Why p k i bs xs ys Server = p.servers ≤ i
Why p k i bs xs ys Message = from_server (read_event bs) ≡ true
Why p k i bs xs ys Events = length xs < k.events + 9 + length bs
Why p k i bs xs ys Answers = length ys < k.answers + p.longest

-- the journals have room for an event of n bytes and its answer; or what any such event is denied for
abbrev pub RoomOrWhy : code.Group → Kept → List ℕ → List ℕ → ℕ → Result (Unit {0}) Denied → Type 0
RoomOrWhy p k xs ys n (Ok x) = (k.events + 9 + n ≤ length xs) × (k.answers + p.longest ≤ length ys)
RoomOrWhy p k xs ys n (Err why) = (i : ℕ) (bs : List ℕ) → length bs ≡ n → Why p k i bs xs ys why

-- played; or denied, for a reason, and nothing changed
abbrev pub Outcome :
    code.Group → Kept → ℕ → List ℕ → List ℕ → List ℕ → List ℕ → List ℕ → List ℕ → List ℕ → Result Kept Denied → Type 0
Outcome p k i bs m xs ys m' xs' ys' (Ok k') = Played p k i (read_event bs) xs ys k' m' xs' ys'
Outcome p k i bs m xs ys m' xs' ys' (Err why) = Why p k i bs xs ys why × (m' ≡ m) × (xs' ≡ xs) × (ys' ≡ ys)
