-- What a memory holds, and what it becomes: the contracts of everything that reads or changes a server's memory. Assumes nothing:
-- these are definitions.
use Rattle.std.specs.Prelude.{◌≡◌, ℕ, true, List}
use Rattle.servers.specs.Server.{Limits, State, Event, state}
use Rattle.servers.specs.World.{memory}
use Rattle.servers.specs.Promise.{GoodLimits, all_readable}
use Rattle.servers.specs.declared.limits.Limits as code
use Rattle.memory.specs.Layout.{memory_of, limits_in, state_in, region_in, servers_in, me_in, clients_in, room_in}
use Rattle.memory.specs.Fits.{Fits, Bounded}
use Rattle.memory.specs.Program.{serves, server}

-- the limits of the server that runs, and its state
abbrev pub limits_of : List ℕ → Limits
limits_of m = limits_in serves m

-- as the code has them
abbrev pub limits_held : List ℕ → code.Limits
limits_held m = record { servers = servers_in m; me = me_in m; clients = clients_in m; room = room_in m }

abbrev pub state_of : List ℕ → State
state_of m = state_in m

-- m is the memory of limits, state and region that it holds, and they fit
pub record Held (m : List ℕ) : Type 0 where
  pub is : m ≡ memory_of (limits_of m) (state_of m) (region_in m)
  pub fits : Fits (limits_of m) (state_of m) (region_in m)
  pub good : Bounded (limits_of m)

-- every memory of the server, after any readable events, is held, with the limits and the state of the definitions
pub record Holding (l : Limits) (s : State) (m : List ℕ) : Type 0 where
  pub held : Held m
  pub limits : limits_of m ≡ l
  pub state : state_of m ≡ s

abbrev pub AlwaysHeld : Type 0
AlwaysHeld =
    (l : Limits) (es : List Event) → GoodLimits serves l → all_readable es ≡ true → Holding l (state l es) (memory server l es)

-- m' is m with the state s and the store's region r: together with Held these equations pin every word
pub record Turns (m m' : List ℕ) (s : State) (r : List ℕ) : Type 0 where
  pub held : Held m'
  pub state : state_of m' ≡ s
  pub limits : limits_of m' ≡ limits_of m
  pub region : region_in m' ≡ r

-- and where the store stays as it is
abbrev pub Becomes : List ℕ → List ℕ → State → Type 0
Becomes m m' s = Turns m m' s (region_in m)
