use Rattle.std.proofs.Common.{◌≤◌}
use Rattle.store.specs.Calls.{Held}
use Rattle.bench_store.proofs.work.all.Given as goal

abbrev pub invariant-loop-k : goal.invariant-loop-k
invariant-loop-k g l = Held l.region × (l.done ≤ l.k)
