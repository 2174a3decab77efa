use Rattle.std.proofs.Common.{ℕ, List}
use Rattle.state.specs.Held.{limits_of}
use Rattle.server.proofs.Reaching.{reached_held}
use Rattle.apply.proofs.Doing.{region_held}
use Rattle.server_tests.proofs.harness.has.Goals as goal

pub new-requires : goal.new-requires
new-requires c = let m : List ℕ = c.args.mem.now in reached_held (limits_of m) m c.requires.live.reached

pub look_up-requires : goal.look_up-requires
look_up-requires c =
    record {
      held = region_held c.new.result.words.now c.store.result.now c.new.result.held c.store.ensures;
      name = c.requires.name;
    }
