use Rattle.std.proofs.Common.{◌≤◌}
use Rattle.bench_store.proofs.work.look_all.Given as goal

abbrev pub invariant-loop-k : goal.invariant-loop-k
invariant-loop-k l = l.done ≤ l.k
