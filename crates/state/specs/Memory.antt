-- What the methods of a server's memory promise: which limits, state and region it holds, and what it becomes. Assumes nothing: these are
-- definitions.
use Rattle.std.specs.Prelude.{◌≡◌, ℕ, List}
use Rattle.servers.specs.Server.{Limits, State}
use Rattle.servers.specs.declared.limits.Limits as code
use Rattle.memory.specs.Layout as layout
use Rattle.state.specs.Held as held
use Rattle.state.specs.declared.words.Memory.{Memory}

-- the limits, as the definitions and as the code have them
abbrev pub limits_of : Memory → Limits
limits_of m = held.limits_of m.words.now

abbrev pub limits_held : Memory → code.Limits
limits_held m = held.limits_held m.words.now

abbrev pub servers_in : Memory → ℕ
servers_in m = layout.servers_in m.words.now

abbrev pub me_in : Memory → ℕ
me_in m = layout.me_in m.words.now

abbrev pub clients_in : Memory → ℕ
clients_in m = layout.clients_in m.words.now

abbrev pub room_in : Memory → ℕ
room_in m = layout.room_in m.words.now

abbrev pub state_of : Memory → State
state_of m = held.state_of m.words.now

-- the store's region
abbrev pub region_in : Memory → List ℕ
region_in m = layout.region_in m.words.now

-- the rows of the log, with those that it has room for
abbrev pub log_part : Memory → List ℕ
log_part m = layout.log_part m.words.now

-- m' is m with the state s and the store's region r, in the same lent words: since it is held these equations pin every word
pub record Turns (m m' : Memory) (s : State) (r : List ℕ) : Type 0 where
  pub same : m'.words.ghost_name ≡ m.words.ghost_name
  pub state : state_of m' ≡ s
  pub limits : limits_of m' ≡ limits_of m
  pub region : region_in m' ≡ r

-- and where the store stays as it is
abbrev pub Becomes : Memory → Memory → State → Type 0
Becomes m m' s = Turns m m' s (region_in m)
