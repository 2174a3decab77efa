use Rattle.std.proofs.Common.{◌≡◌, ℕ, ◌<◌}
use Rattle.servers.specs.World.{limits}
use Rattle.memory.specs.Program.{opened}
use Rattle.group.specs.Parts.{part}
use Rattle.group.specs.Playing.{group_of}
use Rattle.group.proofs.open.open_group.Given as goal

-- those before i are opened
abbrev pub invariant-loop-i : goal.invariant-loop-i
invariant-loop-i l = (j : ℕ) → j < l.i → part l.g.words j l.mems ≡ opened (limits (group_of l.g) j)
