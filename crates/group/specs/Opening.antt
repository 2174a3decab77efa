-- How much a group needs. Assumes nothing: these are definitions.
use Rattle.std.specs.Prelude.{◌≡◌, ℕ, List, Ok, Err, Result}
use Rattle.servers.specs.declared.limits.Limits.{Limits}
use Rattle.servers.specs.declared.limits.Limit.{Limit}
use Rattle.servers.specs.World.{limits}
use Rattle.servers.specs.Opened.{limits_of}
use Rattle.servers.specs.Promise.{GoodGroup}
use Rattle.wire.specs.Sizes.{answer_size}
use Rattle.memory.specs.Program.{serves}
use Rattle.server.specs.Opening.{memory_size}
use Rattle.group.specs.Playing.{group_of, Playing}
use Rattle.group.specs.declared.happen.Group.{Group}
use Rattle.group.specs.declared.happen.Kept.{Kept}

-- limits in their range, with the words of each server and the bytes of the longest answer
pub record Sized (p : Group) : Type 0 where
  pub good : GoodGroup serves (group_of p)
  pub each : p.words ≡ memory_size (limits (group_of p) 0)
  pub answer : p.longest ≡ answer_size (limits (group_of p) 0)

-- the group of some limits
abbrev pub group_sized : Result Limits Limit → Result Group Limit
group_sized (Ok l) =
    Ok (record {
      servers = l.servers;
      clients = l.clients;
      room = l.room;
      words = memory_size (limits_of serves l);
      longest = answer_size (limits_of serves l);
    })
group_sized (Err u) = Err u

abbrev pub none_kept : Kept
none_kept = record { happenings = 0; events = 0; answers = 0 }

-- what is sized fits
abbrev pub FitsGroup : Result Group Limit → Type 0
FitsGroup (Ok p) = Sized p
FitsGroup (Err u) = Unit {0}

-- a group that plays, whatever stands in the journals
abbrev pub PlaysNew : Group → Kept → List ℕ → Type 0
PlaysNew p k mems = (events answers : List ℕ) → Playing p k mems events answers
