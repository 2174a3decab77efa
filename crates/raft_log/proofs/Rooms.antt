-- The bytes of an entry's parts.
use Rattle.std.proofs.Common.{◌≡◌, ℕ, zero, suc, ◌+◌, ◌<◌, ◌≤◌, List, ◌∷◌, ◌++◌, length, refl, ap, ◌∙◌, arith}
use Rattle.std.proofs.lemmas.List.{append-nil}
use Rattle.servers.specs.Store.{Perhaps}
use Rattle.wire.specs.Write.{write_number, write_text, write_command}
use Rattle.raft_log.specs.Rows.{command_by}
use Rattle.raft_log.specs.Bytes.{write_numbers, write_parts}

-- the numbers of an entry take 33 bytes
pub length_numbers : (h c k i t : ℕ) → length (write_numbers h c k i t) ≡ 33
unfolding write_number
length_numbers h c k i t = refl

-- the bytes of a command are those of its parts
pub command_bytes : (n : ℕ) (k v : List ℕ) (e : Perhaps) → n < 5 → write_parts n k e v ≡ write_command (command_by n k e v)
command_bytes zero k v e h = ap (λ (z : List ℕ). 0 ∷ z) (append-nil (write_text k))
command_bytes (suc zero) k v e h = refl
command_bytes (suc (suc zero)) k v e h = ap (λ (z : List ℕ). 2 ∷ z) (append-nil (write_text k))
command_bytes (suc (suc (suc zero))) k v e h = refl
command_bytes (suc (suc (suc (suc zero)))) k v e h = refl
command_bytes (suc (suc (suc (suc (suc n))))) k v e h = absurd (omega arith)
