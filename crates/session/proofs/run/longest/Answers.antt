use Rattle.std.proofs.Common.{ℕ, List}
use Rattle.state.specs.Held.{limits_of}
use Rattle.server.proofs.Reaching.{reached_held}
use Rattle.session.proofs.run.longest.Goals as goal

pub new-requires : goal.new-requires
new-requires c = let m : List ℕ = c.args.mem.now in reached_held (limits_of m) m c.requires.reached
