use Rattle.store.specs.Calls.{Held}
use Rattle.bench_store.proofs.run.Given as goal

abbrev pub invariant-loop-kind : goal.invariant-loop-kind
invariant-loop-kind l = Held l.region
