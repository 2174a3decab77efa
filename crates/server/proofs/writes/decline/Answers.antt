use Rattle.std.proofs.Common.{arith}
use Rattle.apply.proofs.Sizes.{told_fits}
use Rattle.server.proofs.writes.decline.Goals as goal

pub apply_all-requires : goal.apply_all-requires
apply_all-requires c =
    let most = told_fits c.args.mem.now in
    let room = c.requires.room in
    record { room = omega arith }
