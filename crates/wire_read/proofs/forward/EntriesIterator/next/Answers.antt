use Rattle.std.proofs.Common.{rules, subst, arith}
use Rattle.wire_read.specs.Means.{Reads, entry_of}
use Rattle.wire_read.proofs.Passing.{first_there, rest_there, entries_more, no_entries}
use Rattle.wire_read.proofs.Reading.{reads_ok}
use Rattle.wire_read.proofs.forward.EntriesIterator.next.Goals as goal

pub returns-then-self-eq0-clause-steps : goal.returns-then-self-eq0-clause-steps
returns-then-self-eq0-clause-steps c =
    let e = no_entries c.args.self.now.count c.args.self.now.bytes.now c.if-self-eq0.true in
    (e, e)

pub unwrap-requires : goal.unwrap-requires
unwrap-requires c =
    let es = c.args.self.now in
    reads_ok _ _ c.read_entry.result c.read_entry.ensures (first_there es.count es.bytes.now (omega arith) es.there)

pub invariant_of-self : goal.invariant_of-self
invariant_of-self c =
    let es = c.args.self.now in
    let p = subst (Reads entry_of _) c.unwrap.ensures c.read_entry.ensures in
    record { there = rest_there es.count es.bytes.now _ _ (omega arith) p es.there }

pub returns-clause-steps : goal.returns-clause-steps
returns-clause-steps c =
    let es = c.args.self.now in
    let p = subst (Reads entry_of _) c.unwrap.ensures c.read_entry.ensures in
    entries_more es.count es.bytes.now _ _ (omega arith) p es.there

pub returns-clause-goes : goal.returns-clause-goes
returns-clause-goes c =
    let es = c.args.self.now in
    let p = subst (Reads entry_of _) c.unwrap.ensures c.read_entry.ensures in
    let e = entries_more es.count es.bytes.now _ _ (omega arith) p es.there in
    search rules
