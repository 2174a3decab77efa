-- What the code reads at a place is what the list functions find.
use Rattle.std.proofs.Common.{◌≡◌, ℕ, ◌<◌, ◌⊎◌, List, [], refl, ap, inl, inr, arith}
use Rattle.servers.specs.Server.{entry_at, last_term}
use Rattle.raft_log.specs.Rows.{log_in}
use Rattle.raft_log.specs.Places.{entry_in}
use Rattle.raft_log.proofs.Places.{log_in_row, log_in_more, entry_at_none}

-- that there is none
pub none_at : (i n : ℕ) (ws : List ℕ) → (i ≡ 0) ⊎ (n < i) → entry_at i (log_in n ws) ≡ []
none_at i n ws h =
    let r = log_in_row n ws in let l = r.1 in
    entry_at_none i (log_in n ws) r.0 (elim h [ inl a ↦ inl a | inr b ↦ inr (omega arith) ])

-- the last term, of none and of some
pub last_none : (n : ℕ) (ws : List ℕ) → n ≡ 0 → last_term (log_in n ws) ≡ 0
unfolding log_in
last_none n ws e = rw e refl

pub last_some : (n : ℕ) (ws : List ℕ) → 0 < n → last_term (log_in n ws) ≡ (entry_in n ws).term
last_some n ws h = ap last_term (log_in_more n ws h)
