-- LOG MATCHING, in one world: each log is, up to any of its entries, the log of the leader of that entry's term. So two logs with an
-- entry of one index and term are the same up to there.
use Rattle.std.proofs.Common.{◌≡◌, ℕ, ◌<◌, ◌≤◌, List, [], ◌∷◌, sym, ap, ◌∙◌, arith}
use Rattle.servers.specs.Server.{Entry, last_index, last_term, up_to, entry_at}
use Rattle.servers.specs.World.{Sent}
use Rattle.safety.proofs.Logs.{up_to_up_to, entry_up_to, entry_within, last_up_to_below, contiguous_up_to, ascending_up_to}
use Rattle.safety.proofs.Logs.{ascending_more, agree_reaches}
use Rattle.safety.proofs.Ghost.{just, Election, Ghost}
use Rattle.safety.proofs.Invariant.{ValidLog, ValidElection, GhostInvariant}

-- two logs with entry n of one term agree up to there
pub logs_match : {γ : Ghost} {a b : List Entry} {t u : ℕ} → ValidLog γ a t → ValidLog γ b u → (n : ℕ) (x y : Entry)
    → entry_at n a ≡ x ∷ [] → entry_at n b ≡ y ∷ [] → x.term ≡ y.term → up_to n a ≡ up_to n b
logs_match va vb n x y p q e =
    let in_a = (va.matching n x p).same in
    let in_b = (vb.matching n y q).same in
    cc

-- a part of a log from its beginning is a log
pub valid_prefix : {γ : Ghost} {l : List Entry} {t : ℕ} (n : ℕ) → ValidLog γ l t → ValidLog γ (up_to n l) t
valid_prefix {γ} {l} {t} n v =
    record {
      contiguous = contiguous_up_to n l v.contiguous;
      ascending = ascending_up_to n l t v.ascending;
      matching = λ m e q.
          let far = entry_within m (up_to n l) e q in
          let low = last_up_to_below n l in
          let f = v.matching m e (sym (entry_up_to m n l (omega arith)) ∙ q) in
          record { election = f.election; elected = f.elected; same = up_to_up_to m n l (omega arith) ∙ f.same };
    }

-- a log at a server of one term is one at a server of a later term
pub valid_later : {γ : Ghost} {l : List Entry} {t : ℕ} (u : ℕ) → t ≤ u → ValidLog γ l t → ValidLog γ l u
valid_later {γ} {l} {t} u h v =
    record { contiguous = v.contiguous; ascending = ascending_more l t u h v.ascending; matching = v.matching }

-- LEADERS' LOGS: a leader's log has, up to the end of the log that it was elected with, just that log
pub start_in_log : {k : ℕ} {γ : Ghost} {t : ℕ} {r : Election} → ValidElection k γ t r → (n : ℕ) → n ≤ last_index r.log
    → up_to n (γ.leader_log t) ≡ up_to n r.log
start_in_log {k} {γ} {t} {r} v n h = sym (up_to_up_to n (last_index r.log) (γ.leader_log t) h) ∙ ap (up_to n) v.start

module _ {k : ℕ} {γ : Ghost} {sent : List Sent} (g : GhostInvariant k γ sent) where
  -- the log that it was elected with is a log, of earlier terms
  pub start_valid : (t : ℕ) (r : Election) → γ.elected t ≡ just r → ValidLog γ r.log t × (last_term r.log < t)
  start_valid t r q =
      let b = g.ballots r.leader t (record { candidate = r.leader; log = r.log }) (g.elections t r q).own in
      (b.log, b.earlier b.own_self)

  -- what a log has to have to agree so far with a leader's
  pub agrees_within : (n t : ℕ) (l : List Entry) → n ≤ last_index (γ.leader_log t) → up_to n l ≡ up_to n (γ.leader_log t)
      → n ≤ last_index l
  agrees_within n t l h e = agree_reaches n l (γ.leader_log t) (g.leader_logs t).contiguous h e

  -- who was elected with another leader's log up to n, has it in its log
  pub inherited_in_log : (n t u : ℕ) (r : Election) → n ≤ last_index (γ.leader_log t) → γ.elected u ≡ just r
      → up_to n r.log ≡ up_to n (γ.leader_log t) → up_to n (γ.leader_log u) ≡ up_to n (γ.leader_log t)
  inherited_in_log n t u r h q e = start_in_log (g.elections u r q) n (agrees_within n t r.log h e) ∙ e
