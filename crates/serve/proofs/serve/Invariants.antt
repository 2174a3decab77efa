use Rattle.std.proofs.Common.{◌≡◌, ◌≤◌, length, vec_len}
use Rattle.state.specs.Held.{limits_of}
use Rattle.server.specs.Reached.{Reached}
use Rattle.serve.proofs.serve.Given as goal

-- what has come stands in the buffer, and the memory is one that was reached
abbrev pub invariant-loop-turn : goal.invariant-loop-turn
invariant-loop-turn g l =
    (l.filled ≤ vec_len l.buf) × Reached (limits_of l.mem) l.mem × (length l.out ≡ length l.initial.out)
