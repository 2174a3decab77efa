use Rattle.std.proofs.Common.{◌≡◌, take}
use Rattle.store.specs.Region.{numbers}
use Rattle.store.proofs.start.number_rows.Given as goal

abbrev pub invariant-loop-i : goal.invariant-loop-i
invariant-loop-i l = take l.i l.index ≡ numbers 0 l.i
