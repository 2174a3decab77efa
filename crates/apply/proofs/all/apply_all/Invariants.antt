use Rattle.apply.proofs.Going.{Going}
use Rattle.apply.proofs.all.apply_all.Given as goal

abbrev pub invariant-loop-done : goal.invariant-loop-done
invariant-loop-done l = Going l.fn.mem l.fn.to l.mem l.to l.done l.count
