use Rattle.std.proofs.Common.{◌≡◌, ltb, length, get_or}
use Rattle.std.specs.Iterator.Adapters.{zip_first, zip_second}
use Rattle.std.specs.Slice.Iter.{iter_rest}
use Rattle.texts.specs.Order.{less_cells, less_words}
use Rattle.texts.proofs.compare.less.Given as goal

-- the words that are still to be compared decide
abbrev pub invariant-loop-x : goal.invariant-loop-x
invariant-loop-x l =
    (length (iter_rest (zip_first l.x-iterator)) ≡ length (iter_rest (zip_second l.x-iterator)))
    × (less_cells (iter_rest (zip_first l.x-iterator)) (iter_rest (zip_second l.x-iterator)) (ltb (get_or l.a 0 0) (get_or l.b 0 0))
    ≡ less_words l.a l.b)
