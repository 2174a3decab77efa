-- What the methods of a server's memory that is lent to be read promise: which limits, state and region it holds. Assumes nothing: these
-- are definitions.
use Rattle.std.specs.Prelude.{ℕ, List}
use Rattle.servers.specs.Server.{Limits, State}
use Rattle.servers.specs.declared.limits.Limits as code
use Rattle.memory.specs.Layout as layout
use Rattle.state.specs.Held as held
use Rattle.state.specs.declared.view.View.{View}

-- the limits, as the definitions and as the code have them
abbrev pub limits_of : View → Limits
limits_of m = held.limits_of m.words.now

abbrev pub limits_held : View → code.Limits
limits_held m = held.limits_held m.words.now

abbrev pub servers_in : View → ℕ
servers_in m = layout.servers_in m.words.now

abbrev pub me_in : View → ℕ
me_in m = layout.me_in m.words.now

abbrev pub clients_in : View → ℕ
clients_in m = layout.clients_in m.words.now

abbrev pub room_in : View → ℕ
room_in m = layout.room_in m.words.now

abbrev pub state_of : View → State
state_of m = held.state_of m.words.now

-- the store's region
abbrev pub region_in : View → List ℕ
region_in m = layout.region_in m.words.now

-- the rows of the log, with those that it has room for
abbrev pub log_part : View → List ℕ
log_part m = layout.log_part m.words.now
