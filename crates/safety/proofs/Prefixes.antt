-- Committed prefixes: seen from a later term, in part, and in another log that begins alike.
use Rattle.std.proofs.Common.{◌≡◌, ℕ, ◌≤◌, List, ◌∙◌, arith}
use Rattle.servers.specs.Server.{Entry, last_index, up_to}
use Rattle.servers.specs.World.{Sent}
use Rattle.safety.proofs.Logs.{agree_below}
use Rattle.safety.proofs.Ghost.{Ghost, CommittedPrefix}

module _ {k : ℕ} {γ : Ghost} {sent : List Sent} {c t : ℕ} {l : List Entry} (p : CommittedPrefix k γ sent c t l) where
  -- by the term in which it was committed, or any later
  abbrev pub committed_by : (u : ℕ) → p.in_term ≤ u → CommittedPrefix k γ sent c u l
  committed_by u h =
      record {
        index = p.index;
        in_term = p.in_term;
        committed = p.committed;
        far = p.far;
        low = h;
        same = p.same;
        inside = p.inside;
      }

  -- less of it
  pub committed_part : (d : ℕ) → d ≤ c → CommittedPrefix k γ sent d t l
  committed_part d h =
      let far = p.far in
      let inside = p.inside in
      record {
        index = p.index;
        in_term = p.in_term;
        committed = p.committed;
        far = omega arith;
        low = p.low;
        same = agree_below d c l (γ.leader_log p.in_term) h p.same;
        inside = omega arith;
      }

  -- in a log that begins alike
  pub committed_alike : (l' : List Entry) → up_to c l' ≡ up_to c l → c ≤ last_index l' → CommittedPrefix k γ sent c t l'
  committed_alike l' e h =
      record {
        index = p.index;
        in_term = p.in_term;
        committed = p.committed;
        far = p.far;
        low = p.low;
        same = e ∙ p.same;
        inside = h;
      }

-- what is committed by term t is so by any later one
pub committed_later : {k : ℕ} {γ : Ghost} {sent : List Sent} {c t : ℕ} {l : List Entry} (u : ℕ) → t ≤ u
    → CommittedPrefix k γ sent c t l → CommittedPrefix k γ sent c u l
committed_later u h p = let low = p.low in committed_by p u (omega arith)
