use Rattle.std.proofs.Common.{List, length}
use Rattle.wire_write.specs.Put.{Room, Wrote}
use Rattle.wire_write.specs.declared.writer.Writer.{Writer}
use Rattle.raft_log.specs.Places.{words_of}
use Rattle.raft_log.proofs.Entries.{above_bytes}
use Rattle.raft_log.proofs.write.write_entries.Given as goal

-- there is room for what is left, and to write that is to write the whole
abbrev pub invariant-loop-i : goal.invariant-loop-i
invariant-loop-i l =
    Room (length (above_bytes l.index l.i (words_of l.log))) l.to
    × ((w : Writer) → Wrote (above_bytes l.index l.i (words_of l.log)) l.to w
    → Wrote (above_bytes l.index (length l.log) (words_of l.log)) l.fn.to w)
