use Rattle.std.proofs.Common.{ℕ, List, arith}
use Rattle.raft_log.proofs.size.entry_size.Goals as goal
use Rattle.raft_log.proofs.Sizes.{entry_long, entry_most}

pub returns : goal.returns
returns c =
    let ws : List ℕ = c.args.row.now in
    let e = c.expected_size.ensures in
    let v = c.last_size.ensures in
    let m = entry_most ws c.requires in
    record { exact = λ i. let l = entry_long i ws c.told-row c.requires in omega arith; most = omega arith }
