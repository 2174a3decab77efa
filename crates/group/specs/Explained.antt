-- What is promised of the world of a group, whole. Assumes nothing: these are statements.
use Rattle.std.specs.Prelude.{◌≡◌, ℕ, true, List, [], ◌∷◌}
use Rattle.servers.specs.Server.{Said}
use Rattle.servers.specs.World.{Group, World, Asked, Told, OneCommand, before, reply_in, there, each_once, earlier}
use Rattle.servers.specs.Promise.{GoodGroup, all_asked}
use Rattle.one_order.specs.Order.{linearization}
use Rattle.one_order.specs.Linearizable.{Linearizes}
use Rattle.memory.specs.Program.{serves}
use Rattle.group.specs.Parts.{Alive}

-- THE WORLD OF A GROUP IS EXPLAINED by one server that does one command at a time: if a number always stands for the same command,
-- the commands stand in one order, each once, each asked, each answer what that one server would have told, and what was told
-- before something else was asked comes before it. The order is the one that is read off the logs, and that holds even if clients
-- use one number for several commands
pub record Explained (g : Group) (w : World) : Type 0 where
  pub as_if_one :
      OneCommand w.past → (os : List Asked) × ((each_once os ≡ true) × all_asked w.past os
      × ((s : Said) → Told s w.past → reply_in os s.client s.id ≡ s.reply ∷ [])
      × ((c k d j : ℕ) → before w.past c k d j ≡ true → there os d j ≡ true → earlier os c k d j ≡ true))
  pub by_the_logs : Linearizes w.past (linearization g w)

-- and so is every world that a group of these servers can live
abbrev pub AliveIsExplained : Type 0
AliveIsExplained = (g : Group) (w : World) → GoodGroup serves g → Alive g w → Explained g w
