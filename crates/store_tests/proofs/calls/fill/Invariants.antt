use Rattle.store.specs.Calls.{Held}
use Rattle.store_tests.proofs.calls.fill.Given as goal

abbrev pub invariant-loop-i : goal.invariant-loop-i
invariant-loop-i l = Held l.region
