use Rattle.std.proofs.Common.{◌≡◌, ◌-◌}
use Rattle.wire.specs.Read.{read_entries}
use Rattle.wire_read.proofs.Passing.{passed}
use Rattle.wire_read.proofs.message.read_entries.Given as goal

-- the pass over what is left goes as the pass over all
abbrev pub invariant-loop : goal.invariant-loop
invariant-loop l = passed (read_entries (l.count - l.counter) l.rest) ≡ passed (read_entries l.count l.b)
