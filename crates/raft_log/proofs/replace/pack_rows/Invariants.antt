use Rattle.std.specs.Iterator.Adapters.{zip_first, zip_second, rev_source}
use Rattle.raft_log.proofs.Replaced.{Left}
use Rattle.raft_log.proofs.replace.pack_rows.Given as goal

abbrev pub invariant-loop-i : goal.invariant-loop-i
invariant-loop-i l =
    (goal.iterator-loop-i).can_next l.i-iterator × (goal.iterator-loop-i).is_finite l.i-iterator
    × Left (rev_source (zip_first l.i-iterator)) (zip_second l.i-iterator) l.fn.entries l.rows
