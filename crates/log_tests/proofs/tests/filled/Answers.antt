use Rattle.std.proofs.Common.{arith}
use Rattle.log_tests.proofs.tests.filled.Goals as goal
use Rattle.log_tests.proofs.Held.{held_none}

pub pushed-requires : goal.pushed-requires
pushed-requires c =
    record { held = held_none c.args.region.now c.requires.region; room = omega arith; bytes = c.requires.bytes }
