use Rattle.std.proofs.Common.{◌≡◌, ◌-◌, ◌&&◌, length}
use Rattle.std.specs.Bool.{then_some}
use Rattle.std.specs.Iterator.Adapters.{rev_source, zip_first, zip_second}
use Rattle.std.specs.Range.{range_inclusive_start, range_inclusive_left}
use Rattle.wire_read.specs.Means.{entries_of}
use Rattle.checks.specs.Steps.{good_there, passes, row_there}
use Rattle.checks.proofs.append.pass.Given as goal

-- what is left, with the row so far, gives the whole
abbrev pub invariant-loop-left : goal.invariant-loop-left
invariant-loop-left l =
    let numbers = rev_source (zip_first l.left-iterator) in
    let rest = zip_second l.left-iterator in
    (goal.iterator-loop-left).can_next l.left-iterator
    × (goal.iterator-loop-left).is_finite l.left-iterator
    × (range_inclusive_start numbers ≡ 1)
    × (range_inclusive_left (λ a b. b - a) numbers ≡ length (entries_of rest))
    × (then_some (good_there l.l rest) (l.row && row_there l.before rest) ≡ passes l.l l.before l.entries)
