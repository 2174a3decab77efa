-- A LEADER'S LOG BEGINS OR GROWS: a server is elected with the log that it has (VoteReply), or puts a command on its log while it leads
-- (ClientRequest). Both set the election and the leader's log of its term, and owe the same (`LeadsWith`).
use Rattle.std.proofs.Common.{◌≡◌, ℕ, ◌<◌, ◌≤◌, Bool, eqb, ◌⊎◌, List, [], ◌∷◌, length, sym, refl, ap, ◌∙◌, subst, inl, inr, arith}
use Rattle.servers.specs.Store.{pick}
use Rattle.servers.specs.Server.{Entry, State, last_index, up_to, entry_at, nth}
use Rattle.servers.specs.World.{Sent}
use Rattle.std.proofs.lemmas.Bool.{cases_eq, ne_eqb}
use Rattle.std.proofs.lemmas.Bool.Decides.{nat_tests}
use Rattle.safety.proofs.Logs.{Contiguous, Ascending, entry_within}
use Rattle.safety.proofs.Quorums.{Quorum}
use Rattle.safety.proofs.Ghost.{nothing, just, Election, Ghost, VotedFor, Ack, replied, led, Acked, CommittedPrefix, Inherits, OwnStep}
use Rattle.safety.proofs.Invariant.{ValidLog, FromLeader, ValidElection, view, horizon, ServerInvariant}
use Rattle.safety.proofs.Prefixes.{committed_alike}
use Rattle.safety.proofs.LogMatching.{agrees_within}
use Rattle.safety.proofs.Growth.{from_leader_stays, ack_stays, prefix_stays, inherits_before}
use Rattle.safety.proofs.Frame.{Owed, acked_within}
use Rattle.safety.proofs.Turn.{Before, Turn, move}

-- the ghost in which r is elected in term t, and the leader's log of t is l
abbrev pub with_leader : Ghost → ℕ → Election → List Entry → Ghost
with_leader γ t r l =
    record {
      ballot = γ.ballot;
      elected = λ u. pick (eqb u t) (just r) (γ.elected u);
      leader_log = λ u. pick (eqb u t) l (γ.leader_log u);
    }

elected_here : (γ : Ghost) (t : ℕ) (r : Election) (l : List Entry) → (with_leader γ t r l).elected t ≡ just r
elected_here γ t r l = grind (arith, nat_tests)

log_here : (γ : Ghost) (t : ℕ) (r : Election) (l : List Entry) → (with_leader γ t r l).leader_log t ≡ l
log_here γ t r l = grind (arith, nat_tests)

elected_else : (γ : Ghost) (t : ℕ) (r : Election) (l : List Entry) (u : ℕ) → (u ≡ t → ⊥) → (with_leader γ t r l).elected u ≡ γ.elected u
elected_else γ t r l u ne = let q = ne_eqb u t ne in rw q

log_else : (γ : Ghost) (t : ℕ) (r : Election) (l : List Entry) (u : ℕ) → (u ≡ t → ⊥) → (with_leader γ t r l).leader_log u ≡ γ.leader_log u
log_else γ t r l u ne = let q = ne_eqb u t ne in rw q

-- what a server has to show, in state s, to lead its term after election r, with log l and matches ms
pub record LeadsWith (k me : ℕ) (γ : Ghost) (sent : List Sent) (s : State) (r : Election) (l : List Entry) (ms : List ℕ) : Type 0 where
  -- it is the winner, by a quorum, and nobody else was elected
  pub alone : (x : Election) → γ.elected s.term ≡ just x → x ≡ r
  pub itself : r.leader ≡ me
  pub votes : Quorum k (VotedFor γ s.term r.leader)
  pub own : γ.ballot r.leader s.term ≡ just (record { candidate = r.leader; log = r.log })
  -- the log begins with that of the election, with the leader's log so far, and with its own log so far
  pub start : up_to (last_index r.log) l ≡ r.log
  pub leaders_stays : (n : ℕ) → n ≤ last_index (γ.leader_log s.term) → up_to n l ≡ up_to n (γ.leader_log s.term)
  pub leaders_longer : last_index (γ.leader_log s.term) ≤ last_index l
  pub own_stays : (n : ℕ) → n ≤ last_index s.log → up_to n l ≡ up_to n s.log
  pub own_longer : last_index s.log ≤ last_index l
  -- what is new in it is of its term
  pub contiguous : Contiguous l
  pub ascending : Ascending l s.term
  pub entries : (n : ℕ) (e : Entry) → entry_at n l ≡ e ∷ [] → (e.term ≡ s.term) ⊎ (entry_at n s.log ≡ e ∷ [])
  -- what it believes of others they acknowledged, of itself is in the log
  pub matches : (x : ℕ) → 0 < nth 0 ms x → Ack γ sent x s.term (nth 0 ms x) ⊎ ((x ≡ me) × (nth 0 ms x ≤ last_index l))
  pub matches_size : length ms ≡ k

module _ {k me : ℕ} {was : Before} {s : State} {sent : List Sent} (a : Turn k me was s sent) {r : Election} {l : List Entry} {ms : List ℕ}
    (vs : List Bool) (votes_size : length vs ≡ k) (c : LeadsWith k me a.γ sent s r l ms) where
  abbrev δ : Ghost
  δ = with_leader a.γ s.term r l

  here : δ.elected s.term ≡ just r
  here = elected_here a.γ s.term r l

  all : δ.leader_log s.term ≡ l
  all = log_here a.γ s.term r l

  -- a fact of each term: of this one, and of the others, which are as before
  by_term : (P : ℕ → Type 0) → P s.term → ((t : ℕ) → (t ≡ s.term → ⊥) → P t) → (t : ℕ) → P t
  by_term P now else t = elim (cases_eq t s.term) [ inl e ↦ subst P (sym e) now | inr ne ↦ else t ne ]

  leaders_stay : (t n : ℕ) → n ≤ last_index (a.γ.leader_log t) → up_to n (δ.leader_log t) ≡ up_to n (a.γ.leader_log t)
  leaders_stay =
      by_term (λ t. (n : ℕ) → n ≤ last_index (a.γ.leader_log t) → up_to n (δ.leader_log t) ≡ up_to n (a.γ.leader_log t))
      (λ n h. rw all (c.leaders_stays n h))
      (λ t ne n h. ap (up_to n) (log_else a.γ s.term r l t ne))

  leaders_longer : (t : ℕ) → last_index (a.γ.leader_log t) ≤ last_index (δ.leader_log t)
  leaders_longer =
      by_term (λ t. last_index (a.γ.leader_log t) ≤ last_index (δ.leader_log t))
      (rw all c.leaders_longer)
      (λ t ne. rw (log_else a.γ s.term r l t ne) (omega arith))

  elections_stay : (t : ℕ) (x : Election) → a.γ.elected t ≡ just x → δ.elected t ≡ just x
  elections_stay =
      by_term (λ t. (x : Election) → a.γ.elected t ≡ just x → δ.elected t ≡ just x)
      (λ x q. here ∙ ap (λ y. just y) (sym (c.alone x q)))
      (λ t ne x q. elected_else a.γ s.term r l t ne ∙ q)

  election_either : (t : ℕ) (x : Election) → δ.elected t ≡ just x
      → ((t ≡ s.term) × (x ≡ r)) ⊎ ((t ≡ s.term → ⊥) × (a.γ.elected t ≡ just x))
  election_either =
      by_term (λ t. (x : Election) → δ.elected t ≡ just x → ((t ≡ s.term) × (x ≡ r)) ⊎ ((t ≡ s.term → ⊥) × (a.γ.elected t ≡ just x)))
      (λ x q. let h = here in inl (refl, cc))
      (λ t ne x q. inr (ne, sym (elected_else a.γ s.term r l t ne) ∙ q))

  -- acknowledgements of other terms are as before
  ack_elsewhere : {v t n : ℕ} → (t ≡ s.term → ⊥) → Ack δ sent v t n → Ack a.γ sent v t n
  ack_elsewhere ne (replied d x) = replied d x
  ack_elsewhere {v} {t} {n} ne (led x q e h) =
      led x (sym (elected_else a.γ s.term r l t ne) ∙ q) e (rw (log_else a.γ s.term r l t ne) at h)

  acked_elsewhere : {v t n : ℕ} → (t ≡ s.term → ⊥) → Acked δ sent v t n → Acked a.γ sent v t n
  acked_elsewhere ne z = record { upto = z.upto; far = z.far; ack = ack_elsewhere ne z.ack }

  own_step : OwnStep me s.term a.γ sent δ sent
  own_step =
      record {
        extends = record {
          ballots = λ v t x q. q;
          elections = elections_stay;
          leader_logs = leaders_stay;
          longer = leaders_longer;
          letters = λ x h. h;
        };
        ballots_new = λ v t x q. inl q;
        elections_new = λ t x q. elim (election_either t x q) [
          | inl now ↦ inr (ap (λ (y : Election). y.leader) now.1 ∙ c.itself)
          | inr old ↦ inl (old.1, log_else a.γ s.term r l t old.0)
        ];
        letters_new = λ x h. inl h;
        acks_new = λ t n z. elim (cases_eq t s.term) [ inl e ↦ inr (omega arith) | inr ne ↦ inl (acked_elsewhere ne z) ];
      }

  -- the leader's log is a log: what is new in it is of this term, the rest is as it was
  valid : ValidLog δ l s.term
  valid = record { contiguous = c.contiguous; ascending = c.ascending; matching = λ n e q. matching n e (c.entries n e q) }
    where
      matching : (n : ℕ) (e : Entry) → (e.term ≡ s.term) ⊎ (entry_at n s.log ≡ e ∷ []) → FromLeader δ l n e.term
      matching n e (inl p) = subst (λ y. FromLeader δ l n y) (sym p) (record { election = r; elected = here; same = rw all })
      matching n e (inr p) =
          let o = from_leader_stays own_step.extends n e p (a.mine.log.matching n e p) in
          record { election = o.election; elected = o.elected; same = c.own_stays n (entry_within n s.log e p) ∙ o.same }

  owed : Owed k me a.γ δ sent
  owed =
      record {
        ballots = λ t x q. inl q;
        elections = λ t x q. elim (election_either t x q) [ inl now ↦ inr (election t x now.0 now.1) | inr old ↦ inl old.1 ];
        leader_logs = by_term (λ t. (δ.leader_log t ≡ a.γ.leader_log t) ⊎ ValidLog δ (δ.leader_log t) t)
            (inr (subst (λ y. ValidLog δ y s.term) (sym all) valid))
            (λ t ne. inl (log_else a.γ s.term r l t ne));
        no_leader = by_term (λ t. δ.elected t ≡ nothing → δ.leader_log t ≡ [])
            (λ q. let h = here in let z : ◌≡◌ {A = ℕ} 0 1 = cc in absurd (omega arith))
            (λ t ne q. log_else a.γ s.term r l t ne
            ∙ a.ghost.no_leader t (sym (elected_else a.γ s.term r l t ne) ∙ q));
      }
    where
      election : (t : ℕ) (x : Election) → t ≡ s.term → x ≡ r → ValidElection k δ t x
      election t x e f =
          subst (λ y. ValidElection k δ t y) (sym f)
          (subst (λ y. ValidElection k δ y r) (sym e) (record { votes = c.votes; own = c.own; start = rw all c.start }))

  mine : ServerInvariant k δ sent me (record {
    term = s.term;
    voted = s.voted;
    leader = s.leader;
    log = l;
    commit = s.commit;
    matches = ms;
    votes = vs;
    kind = 2;
  })
  mine =
      record {
        log = valid;
        votes_size = votes_size;
        matches_size = c.matches_size;
        ballots = a.mine.ballots;
        candidate = λ e. absurd (omega arith);
        leader = λ e. record { election = r; elected = here; itself = c.itself; all = all; acked = λ x h. acked x (c.matches x h) };
        acks = λ t n z. elim (cases_eq t s.term) [ inl e ↦ omega arith | inr ne ↦ a.mine.acks t n (ack_elsewhere ne z) ];
        keeps = by_term (λ t. (n : ℕ) → Acked δ sent me t n → ((x : ℕ) → t < x → x < horizon (view s) → Inherits δ n t x)
            → up_to n l ≡ up_to n (δ.leader_log t))
            (λ n z inherits. rw all)
            (λ t ne n z inherits. keeps t ne n z inherits);
        commit = λ h. commit (prefix_stays own_step.extends (a.mine.commit h));
      }
    where
      acked : (x : ℕ) → Ack a.γ sent x s.term (nth 0 ms x) ⊎ ((x ≡ me) × (nth 0 ms x ≤ last_index l))
          → Ack δ sent x s.term (nth 0 ms x)
      acked x (inl old) = ack_stays own_step.extends old
      acked x (inr (e, h)) = led r here (c.itself ∙ sym e) (rw all h)

      keeps : (t : ℕ) → (t ≡ s.term → ⊥) → (n : ℕ) → Acked δ sent me t n → ((x : ℕ) → t < x → x < horizon (view s) → Inherits δ n t x)
          → up_to n l ≡ up_to n (δ.leader_log t)
      keeps t ne n z inherits =
          let old = acked_elsewhere ne z in
          let far = acked_within a.letters old in
          let had = a.mine.keeps t n old (λ x lo hi. inherits_before own_step.extends n t x far (inherits x lo hi)) in
          c.own_stays n (agrees_within a.ghost n t s.log far had) ∙ (had ∙ sym (leaders_stay t n far))

      commit : CommittedPrefix k δ sent s.commit s.term s.log → CommittedPrefix k δ sent s.commit s.term l
      commit p =
          let inside = p.inside in
          let longer = c.own_longer in
          committed_alike p l (c.own_stays s.commit inside) (omega arith)

  -- so the server leads, in any state that looks so
  pub leads : (s' : State) → view s' ≡ record {
    term = s.term;
    voted = s.voted;
    leader = s.leader;
    log = l;
    commit = s.commit;
    matches = ms;
    votes = vs;
    kind = 2;
  } → Turn k me was s' sent
  leads s' e = move a δ sent s' own_step owed (rw e mine) (λ x h. inl h)
