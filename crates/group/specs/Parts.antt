-- The servers of a group, each in its own part of one memory. Assumes nothing: these are definitions and statements.
use Rattle.std.specs.Prelude.{◌≡◌, ℕ, ◌*◌, ◌<◌, true, ◌≢◌, List, take, drop}
use Rattle.servers.specs.Server.{Event, timeout, request, comes, restart, garbled}
use Rattle.servers.specs.World.{Group, World, In, Lived, limits, seen, memory, happens, new_world}
use Rattle.servers.specs.Promise.{readable, readable_world}
use Rattle.memory.specs.Program.{serves, server, called, opened}

-- the part of server i, where each has so many words
abbrev pub part : ℕ → ℕ → List ℕ → List ℕ
part size i mems = take size (drop (i * size) mems)

-- each part is the program's memory after what that server saw
unfoldable pub Parts : Group → ℕ → List ℕ → World → Type 0
Parts g size mems w = (i : ℕ) → i < g.servers → part size i mems ≡ memory server (limits g i) (seen i w.past)

-- from memory to memory, an event at one server, the others as they were
pub record Steps (g : Group) (size i : ℕ) (e : Event) (m m' : List ℕ) : Type 0 where
  pub called_there : part size i m' ≡ called serves (part size i m) e
  pub others : (j : ℕ) → j < g.servers → j ≢ i → part size j m' ≡ part size j m

-- servers that were opened are those of the new world
abbrev pub PartsOpen : Type 0
PartsOpen =
    (g : Group) (size : ℕ) (m : List ℕ) → ((i : ℕ) → i < g.servers → part size i m ≡ opened (limits g i)) → Parts g size m new_world

-- after the event the parts are those of the world in which it happened
abbrev pub PartsStep : Type 0
PartsStep =
    (g : Group) (size i : ℕ) (e : Event) (m m' : List ℕ) (w : World) → i < g.servers → Parts g size m w → Steps g size i e m m'
    → Parts g size m' (happens server g w i e)

-- what can happen at a server: anything but a message that was never sent to it
abbrev pub CanHappen : World → ℕ → Event → Type 0
CanHappen w i timeout = Unit {0}
CanHappen w i (request c k x) = Unit {0}
CanHappen w i (comes h m) = In (record { by = h; letter = record { to = i; message = m } }) w.sent
CanHappen w i restart = Unit {0}
CanHappen w i (garbled n) = Unit {0}

-- a world that can be: it was lived, of events that bytes can carry
pub record Alive (g : Group) (w : World) : Type 0 where
  pub lived : Lived server g w
  pub carried : readable_world w

abbrev pub AliveNew : Type 0
AliveNew = (g : Group) → Alive g new_world

abbrev pub AliveOn : Type 0
AliveOn =
    (g : Group) (w : World) (i : ℕ) (e : Event) → i < g.servers → readable e ≡ true → CanHappen w i e → Alive g w
    → Alive g (happens server g w i e)
