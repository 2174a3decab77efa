use Rattle.std.proofs.Common.{◌≡◌, ◌&&◌, length}
use Rattle.std.specs.Iterator.Adapters.{zip_first, zip_second}
use Rattle.std.specs.Slice.Iter.{iter_rest}
use Rattle.servers.specs.Store.{same_text}
use Rattle.texts.proofs.compare.same.Given as goal

-- the words that are still to be compared decide
abbrev pub invariant-loop-x : goal.invariant-loop-x
invariant-loop-x l =
    (length (iter_rest (zip_first l.x-iterator)) ≡ length (iter_rest (zip_second l.x-iterator)))
    × ((l.same && same_text (iter_rest (zip_first l.x-iterator)) (iter_rest (zip_second l.x-iterator))) ≡ same_text l.a l.b)
