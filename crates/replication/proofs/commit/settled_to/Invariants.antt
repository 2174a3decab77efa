use Rattle.std.proofs.Common.{◌≡◌, ◌+◌, ◌/◌, ◌≤◌, drop}
use Rattle.servers.specs.Server.{have_it, settled_to}
use Rattle.raft_log.specs.Rows.{log_in}
use Rattle.state.specs.View.{limits_of, log_part, state_of}
use Rattle.replication.proofs.commit.settled_to.Given as goal

-- those that have it, and those that are left, are those that have it
abbrev pub invariant-loop-j : goal.invariant-loop-j
invariant-loop-j l =
    (l.settled ≡ l.commit) × (l.have ≤ l.all.servers / 2) × (l.have ≤ l.j)
    × (l.have + have_it l.i (drop l.j (state_of l.mem).matches) ≡ have_it l.i (state_of l.mem).matches)

-- what the log up to i gives is what the whole log gives
abbrev pub invariant-settled : goal.invariant-settled
invariant-settled l =
    (l.settled ≡ l.commit)
    × (settled_to (limits_of l.mem) (state_of l.mem) (log_in l.i (log_part l.mem))
    ≡ settled_to (limits_of l.mem) (state_of l.mem) (state_of l.mem).log)
