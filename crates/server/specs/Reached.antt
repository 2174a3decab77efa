-- Memories that the server has been in. Assumes nothing: these are definitions.
use Rattle.std.specs.Prelude.{◌≡◌, ℕ, true, List}
use Rattle.servers.specs.Server.{Limits, Event}
use Rattle.servers.specs.World.{memory}
use Rattle.servers.specs.Promise.{GoodLimits, all_readable}
use Rattle.memory.specs.Program.{serves, server}

-- m is the memory of the server that was opened with good limits, after some readable events
pub record Reached (l : Limits) (m : List ℕ) : Type 0 where
  pub events : List Event
  pub good : GoodLimits serves l
  pub readable : all_readable events ≡ true
  pub is : m ≡ memory server l events
