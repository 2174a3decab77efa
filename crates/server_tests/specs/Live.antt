-- Memories of the servers that are tested: one of three, two clients, room for three. Assumes nothing: these are definitions.
use Rattle.std.specs.Prelude.{ℕ, ◌≤◌, List}
use Rattle.wire.specs.Sizes.{answer_size}
use Rattle.state.specs.Held.{limits_of}
use Rattle.server.specs.Reached.{Reached}

-- a memory that was reached; 5,565 bytes have room for its answers
pub record Live (m : List ℕ) : Type 0 where
  pub reached : Reached (limits_of m) m
  pub room : answer_size (limits_of m) ≤ 5565
