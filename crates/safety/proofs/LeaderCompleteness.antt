-- LEADER COMPLETENESS, in one world: who was elected in a later term than that in which an index was committed, was elected with the log
-- up to there (`leader_complete`).
--
-- By induction on the later term u. The quorum that acknowledged and the quorum that voted share a server v. All elections between were
-- won with the prefix, by the induction hypothesis, so v still had it when it voted (`keeps` of its ballot). The winner's log is at least
-- as up to date as v's. If the last terms are the same, both logs are parts of one leader's log, and the winner's is no shorter. If the
-- winner's last term x is later, the winner has an entry of the leader of x, so all that that one was elected with, prefix included.
use Rattle.std.proofs.Common.{◌≡◌, ℕ, zero, suc, ◌<◌, ◌≤◌, ◌⊎◌, List, [], ◌∷◌, sym, ap, ◌∙◌, inl, inr, arith}
use Rattle.servers.specs.Server.{Entry, last_index, last_term, up_to, entry_at}
use Rattle.servers.specs.World.{Sent}
use Rattle.std.proofs.lemmas.Bool.{cases_order, cases_lt}
use Rattle.safety.proofs.Logs.{agree_below, agree_entry, entry_within, entry_term, entry_last}
use Rattle.safety.proofs.Quorums.{quorums_meet}
use Rattle.safety.proofs.Ghost.{just, Ballot, Election, Ghost, VotedFor, Acked, Committed, CommittedPrefix, Inherits, UpToDate}
use Rattle.safety.proofs.Invariant.{ValidLog, FromLeader, GhostInvariant}
use Rattle.safety.proofs.LogMatching.{start_in_log, start_valid, inherited_in_log}

-- a log that ends in an entry of term x is longer than the log that the leader of x was elected with
module _ {k : ℕ} {γ : Ghost} {sent : List Sent} (g : GhostInvariant k γ sent) (h : Entry) (hs : List Entry)
    (f : FromLeader γ (h ∷ hs) h.index h.term) where
  abbrev start : List Entry
  start = f.election.log

  longer_than_start : last_index start < h.index
  longer_than_start = go (cases_lt (last_index start) h.index)
    where
      go : (last_index start < h.index) ⊎ (h.index ≤ last_index start) → last_index start < h.index
      go (inl p) = p
      go (inr p) =
          let valid = start_valid g h.term f.election f.elected in
          let same : up_to h.index (h ∷ hs) ≡ up_to h.index start =
          f.same ∙ start_in_log (g.elections h.term f.election f.elected) h.index p in
          let there : entry_at h.index start ≡ h ∷ [] =
          sym (agree_entry h.index h.index (h ∷ hs) start (omega arith) same) ∙ entry_last h hs in
          let low = entry_term h.index start h.term h valid.0.ascending there in
          let earlier = valid.1 in
          absurd (omega arith)

-- index n is committed in term t
module _ {k : ℕ} {γ : Ghost} {sent : List Sent} (g : GhostInvariant k γ sent) {n t : ℕ} (c : Committed k γ sent n t) where
  abbrev Has : List Entry → Type 0
  Has l = up_to n l ≡ up_to n (γ.leader_log t)

  has_entry : (l : List Entry) → Has l → entry_at n l ≡ c.entry ∷ []
  has_entry l e = agree_entry n n l (γ.leader_log t) (omega arith) e ∙ c.there

  -- a log that is at least as up to date as one that has it, has it
  up_to_date_has : (u : ℕ) (a b : List Entry) → ValidLog γ a u → ValidLog γ b u → UpToDate a b → last_term a < u
      → ((x : ℕ) → t < x → x < u → Inherits γ n t x) → Has b → Has a
  up_to_date_has u [] b va vb new low inherits e =
      let in_b = entry_term n b u c.entry vb.ascending (has_entry b e) in
      absurd (omega arith)
  up_to_date_has u (h ∷ hs) b va vb new low inherits e =
      let there = has_entry b e in
      go (cases_order t h.term) (entry_term n b u c.entry vb.ascending there) (entry_within n b c.entry there)
    where
      from : FromLeader γ (h ∷ hs) h.index h.term
      from = va.matching h.index h (entry_last h hs)

      go : (t ≡ h.term) ⊎ ((t < h.term) ⊎ (h.term < t)) → (1 ≤ c.entry.term) × (c.entry.term ≤ last_term b)
          → n ≤ last_index b → Has (h ∷ hs)
      go (inl same) in_b far =
          let is = c.of_term in
          agree_below n h.index (h ∷ hs) (γ.leader_log t) (omega arith) (rw same from.same)
      go (inr (inl later)) in_b far =
          let r : Election = from.election in
          let has = inherits h.term later low r from.elected in
          let inside = entry_within n r.log c.entry (has_entry r.log has) in
          let longer = longer_than_start g h hs from in
          agree_below n h.index (h ∷ hs) (γ.leader_log h.term) (omega arith) from.same
          ∙ (start_in_log (g.elections h.term r from.elected) n inside ∙ has)
      go (inr (inr before)) in_b far = let is = c.of_term in absurd (omega arith)

  -- strong induction on u, by a bound on it
  complete_below : (bound u : ℕ) (r : Election) → u < bound → γ.elected u ≡ just r → t < u → Has r.log
  complete_below zero u r h q low = absurd (omega arith)
  complete_below (suc bound) u r h q low =
      let won = g.elections u r q in
      let common = quorums_meet (λ v. Acked γ sent v t n) (VotedFor γ u r.leader) c.quorum won.votes in
      let b : Ballot = common.2.0 in
      let ballot = g.ballots common.0 u b common.2.1 in
      let inherits : (x : ℕ) → t < x → x < u → Inherits γ n t x = λ x lo hi r' q'. complete_below bound x r' (omega arith) q' lo in
      let voter_has : Has b.log = ballot.keeps t n low common.1 inherits in
      let one : just ballot.own ≡ just (record { candidate = r.leader; log = r.log }) =
      sym ballot.own_cast ∙ (rw common.2.2 won.own) in
      let winner : ballot.own.log ≡ r.log = cc in
      let valid = start_valid g u r q in
      up_to_date_has u r.log b.log valid.0 ballot.log (rw winner at ballot.up_to_date) valid.1 inherits voter_has

  pub leader_complete : (u : ℕ) (r : Election) → γ.elected u ≡ just r → t < u → up_to n r.log ≡ up_to n (γ.leader_log t)
  leader_complete u r q low = complete_below (suc u) u r (omega arith) q low

-- so what is committed in term t or before is in the leader's log of term t
pub committed_in_log : {k : ℕ} {γ : Ghost} {sent : List Sent} → GhostInvariant k γ sent → {c t : ℕ} {l : List Entry} (r : Election)
    → γ.elected t ≡ just r → (p : CommittedPrefix k γ sent c t l)
    → up_to p.index (γ.leader_log t) ≡ up_to p.index (γ.leader_log p.in_term)
committed_in_log {k} {γ} {sent} g {c} {t} r q p = go (cases_order p.in_term t)
  where
    go : (p.in_term ≡ t) ⊎ ((p.in_term < t) ⊎ (t < p.in_term))
        → up_to p.index (γ.leader_log t) ≡ up_to p.index (γ.leader_log p.in_term)
    go (inl e) = ap (λ y. up_to p.index (γ.leader_log y)) (sym e)
    go (inr (inl low)) =
        let far = entry_within p.index (γ.leader_log p.in_term) p.committed.entry p.committed.there in
        inherited_in_log g p.index p.in_term t r far q (leader_complete g p.committed t r q low)
    go (inr (inr high)) = let z = p.low in absurd (omega arith)
