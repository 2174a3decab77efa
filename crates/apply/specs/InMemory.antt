-- What is to be applied and told, by the memory that holds it. Assumes nothing: these are definitions.
use Rattle.std.specs.Prelude.{ℕ, List}
use Rattle.servers.specs.Server.{Entry, Said, tell_one, tell_all, dues}
use Rattle.raft_log.specs.Places.{entry_in}
use Rattle.state.specs.Memory.{limits_of, log_part, region_in, state_of}
use Rattle.state.specs.declared.words.Memory.{Memory}
use Rattle.memory.specs.Program.{region_all}

-- the entry at an index of the log, and what this server tells of it
abbrev pub entry_of : Memory → ℕ → Entry
entry_of m i = entry_in i (log_part m)

abbrev pub told_of : Memory → ℕ → List Said
told_of m i = tell_one (limits_of m) (state_of m) (entry_of m i)

-- what this server tells of all that is due, and the store's region after it
abbrev pub all_told : Memory → List Said
all_told m = tell_all (limits_of m) (state_of m) (dues (state_of m))

abbrev pub region_reached : Memory → List ℕ
region_reached m = region_all (state_of m) (dues (state_of m)) (region_in m)
