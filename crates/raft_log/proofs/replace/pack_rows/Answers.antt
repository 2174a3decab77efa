use Rattle.std.proofs.Common.{◌+◌, ◌-◌, ◌*◌, inl, inr, ◌∙◌, arith}
use Rattle.std.specs.Iterator.Adapters.{zip_first, zip_second, rev_source}
use Rattle.wire_read.specs.Means.{entry_of}
use Rattle.wire_read.proofs.Passing.{entries_length}
use Rattle.raft_log.proofs.replace.pack_rows.Goals as goal
use Rattle.raft_log.proofs.Replaced.{left_all, left_next, left_none}

pub loop-i-init : goal.loop-i-init
loop-i-init c = ((tt, tt), tt, left_all (rev_source (zip_first c.into_iter-i-iterator.result)) (zip_second c.into_iter-i-iterator.result) c.args.entries c.args.rows.now (cc) (cc) c.requires.size)

pub loop-i-preserved : goal.loop-i-preserved
loop-i-preserved c =
    let s = c.in-Some.ensures.steps in (
      (tt, tt),
      tt,
      left_next (rev_source (zip_first c.loop-i.i-iterator)) (rev_source (zip_first c.next.new.self))
          (zip_second c.loop-i.i-iterator) (zip_second c.next.new.self) c.args.entries (entry_of c.in-Some.entry) c.in-Some.i
          (80 * (c.in-Some.i + 1) - 80 * c.in-Some.i) c.loop-i.rows c.pack_entry.new.row
          (c.loop-i.auto.rows ∙ c.requires.size) s.0.0 s.0.1.1 s.0.1.2 s.1 (omega arith) c.pack_entry.ensures c.loop-i.invariant.2,
    )

pub returns-clause-rows : goal.returns-clause-rows
returns-clause-rows c =
    left_none (rev_source (zip_first c.loop-i.i-iterator)) (zip_second c.loop-i.i-iterator) c.args.entries c.loop-i.rows
    (elim c.in-None.ensures.steps [
      | inl k ↦ inl k.1.1.0
      | inr k ↦ inr k.1.0
    ]) c.loop-i.invariant.2

pub returns-clause-count : goal.returns-clause-count
returns-clause-count c = entries_length c.args.entries.count c.args.entries.bytes.now c.args.entries.there
