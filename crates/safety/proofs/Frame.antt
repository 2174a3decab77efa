-- THE FRAME: a step of one server leaves what holds of the other servers, of the letters, and of votes and elections that were there.
-- Proved once, for all steps. What a step still owes of the ghost is `Owed`.
use Rattle.std.proofs.Common.{◌≡◌, ℕ, ◌<◌, ◌≤◌, ◌⊎◌, List, [], sym, ◌∙◌, subst, inl, inr, arith}
use Rattle.servers.specs.Server.{last_index}
use Rattle.servers.specs.World.{Sent, In}
use Rattle.std.proofs.lemmas.Bool.{cases_eq}
use Rattle.safety.proofs.Ghost.{nothing, just, Ballot, Election, Ghost, Ack, replied, led, Acked, OwnStep}
use Rattle.safety.proofs.Invariant.{ValidLog, ValidBallot, ValidElection, GhostInvariant, View, Candidate, Leader, ServerInvariant}
use Rattle.safety.proofs.Invariant.{LetterInvariant}
use Rattle.safety.proofs.Growth.{valid_log_stays, leader_stays, prefix_stays, voted_stays, election_stays, inherits_before}

-- what a step still owes of the changed ghost: that what is new in it is valid
pub record Owed (k i : ℕ) (γ δ : Ghost) (more : List Sent) : Type 0 where
  pub ballots : (t : ℕ) (x : Ballot) → δ.ballot i t ≡ just x → (γ.ballot i t ≡ just x) ⊎ ValidBallot δ more i t x
  pub elections : (t : ℕ) (r : Election) → δ.elected t ≡ just r → (γ.elected t ≡ just r) ⊎ ValidElection k δ t r
  pub leader_logs : (t : ℕ) → (δ.leader_log t ≡ γ.leader_log t) ⊎ ValidLog δ (δ.leader_log t) t
  pub no_leader : (t : ℕ) → δ.elected t ≡ nothing → δ.leader_log t ≡ []

abbrev pub LettersValid : ℕ → Ghost → List Sent → Type 0
LettersValid k γ sent = (x : Sent) → In x sent → LetterInvariant k γ sent x

-- what was acknowledged is in the leader's log
pub ack_within : {k : ℕ} {γ : Ghost} {sent : List Sent} → LettersValid k γ sent → {v t n : ℕ} → Ack γ sent v t n
    → n ≤ last_index (γ.leader_log t)
ack_within letters (replied d x) = (letters _ x).2
ack_within letters (led r q e h) = h

pub acked_within : {k : ℕ} {γ : Ghost} {sent : List Sent} → LettersValid k γ sent → {v t n : ℕ} → Acked γ sent v t n
    → n ≤ last_index (γ.leader_log t)
acked_within letters a = let h = ack_within letters a.ack in let f = a.far in omega arith

module _ {i b : ℕ} {γ : Ghost} {sent : List Sent} {δ : Ghost} {more : List Sent} (step : OwnStep i b γ sent δ more) where
  -- another server has acknowledged nothing anew
  pub ack_before : {v t n : ℕ} → (v ≡ i → ⊥) → Ack δ more v t n → Ack γ sent v t n
  ack_before ne (replied d x) = elim (step.letters_new _ x) [ inl y ↦ replied d y | inr e ↦ absurd (ne e) ]
  ack_before {v} {t} {n} ne (led r q e h) = go (step.elections_new t r q)
    where
      go : ((γ.elected t ≡ just r) × (δ.leader_log t ≡ γ.leader_log t)) ⊎ (r.leader ≡ i) → Ack γ sent v t n
      go (inl (old, same)) = led r old e (rw same at h)
      go (inr own) = absurd (ne (sym e ∙ own))

  pub acked_before : {v t n : ℕ} → (v ≡ i → ⊥) → Acked δ more v t n → Acked γ sent v t n
  acked_before ne a = record { upto = a.upto; far = a.far; ack = ack_before ne a.ack }

  module _ {k : ℕ} (letters : LettersValid k γ sent) where
    -- THE OTHER SERVERS: their votes, acknowledgements and logs are what they were; new elections and longer leaders' logs are not theirs
    pub others_stay : {v : ℕ} {s : View} → (v ≡ i → ⊥) → ServerInvariant k γ sent v s → ServerInvariant k δ more v s
    others_stay {v} {s} ne o =
        record {
          log = valid_log_stays step.extends o.log;
          votes_size = o.votes_size;
          matches_size = o.matches_size;
          ballots = λ t x q. o.ballots t x (old_ballot t x (step.ballots_new v t x q));
          candidate = λ e. candidate (o.candidate e);
          leader = λ e. leader_stays step.extends (same_log (o.leader e)) (o.leader e);
          acks = λ t n a. o.acks t n (ack_before ne a);
          keeps = λ t n a inherits.
              let old = acked_before ne a in
              let far = acked_within letters old in
              o.keeps t n old (λ x lo hi. inherits_before step.extends n t x far (inherits x lo hi))
              ∙ sym (step.extends.leader_logs t n far);
          commit = λ h. prefix_stays step.extends (o.commit h);
        }
      where
        old_ballot : (t : ℕ) (x : Ballot) → (γ.ballot v t ≡ just x) ⊎ (v ≡ i) → γ.ballot v t ≡ just x
        old_ballot t x (inl q) = q
        old_ballot t x (inr e) = absurd (ne e)

        candidate : Candidate γ v s.term s.log s.votes → Candidate δ v s.term s.log s.votes
        candidate c =
            record {
              own = step.extends.ballots v s.term _ c.own;
              earlier = c.earlier;
              not_elected = λ r q e.
                  elim (step.elections_new s.term r q) [ inl old ↦ c.not_elected r old.0 e | inr own ↦ ne (sym e ∙ own) ];
              votes_cast = λ x h. voted_stays step.extends (c.votes_cast x h);
            }

        same_log : Leader γ sent v s.term s.log s.matches → δ.leader_log s.term ≡ γ.leader_log s.term
        same_log w =
            elim (step.elections_new s.term w.election (step.extends.elections s.term w.election w.elected))
            [ inl old ↦ old.1 | inr own ↦ absurd (ne (sym w.itself ∙ own)) ]

    -- a ballot of the server itself too, since it acknowledges nothing of an earlier term than its own
    ballot_stays : ((t : ℕ) (x : Ballot) → γ.ballot i t ≡ just x → t ≤ b) → {v t : ℕ} {x : Ballot}
        → γ.ballot v t ≡ just x → ValidBallot γ sent v t x → ValidBallot δ more v t x
    ballot_stays limit {v} {t} {x} c g =
        record {
          log = valid_log_stays step.extends g.log;
          own = g.own;
          own_cast = step.extends.ballots x.candidate t g.own g.own_cast;
          own_self = g.own_self;
          up_to_date = g.up_to_date;
          earlier = g.earlier;
          keeps = λ u n lo a inherits.
              let old = old_ack u n lo a (cases_eq v i) in
              let far = acked_within letters old in
              g.keeps u n lo old (λ y p q. inherits_before step.extends n u y far (inherits y p q))
              ∙ sym (step.extends.leader_logs u n far);
        }
      where
        old_ack : (u n : ℕ) → u < t → Acked δ more v u n → (v ≡ i) ⊎ (v ≡ i → ⊥) → Acked γ sent v u n
        old_ack u n lo a (inr ne) = acked_before ne a
        old_ack u n lo a (inl e) =
            let here : Acked δ more i u n = subst (λ y. Acked δ more y u n) e a in
            let top : t ≤ b = limit t x (subst (λ y. γ.ballot y t ≡ just x) e c) in
            elim (step.acks_new u n here) [ inl o ↦ subst (λ y. Acked γ sent y u n) (sym e) o | inr z ↦ absurd (omega arith) ]

    -- THE GHOST: what was valid in it is, and what is new is what the step owes
    pub ghost_stays : ((t : ℕ) (x : Ballot) → γ.ballot i t ≡ just x → t ≤ b) → Owed k i γ δ more
        → GhostInvariant k γ sent → GhostInvariant k δ more
    ghost_stays limit owed g =
        record {
          ballots = λ v t x q. ballot v t x q (step.ballots_new v t x q);
          elections = λ t r q. elim (owed.elections t r q) [ inl o ↦ election_stays step.extends (g.elections t r o) | inr n ↦ n ];
          leader_logs = λ t. elim (owed.leader_logs t) [
            | inl e ↦ subst (λ y. ValidLog δ y t) (sym e) (valid_log_stays step.extends (g.leader_logs t))
            | inr n ↦ n
          ];
          no_leader = owed.no_leader;
        }
      where
        ballot : (v t : ℕ) (x : Ballot) → δ.ballot v t ≡ just x → (γ.ballot v t ≡ just x) ⊎ (v ≡ i) → ValidBallot δ more v t x
        ballot v t x q (inl o) = ballot_stays limit o (g.ballots v t x o)
        ballot v t x q (inr e) =
            let here : δ.ballot i t ≡ just x = subst (λ y. δ.ballot y t ≡ just x) e q in
            let valid : ValidBallot δ more i t x =
            elim (owed.ballots t x here) [ inl o ↦ ballot_stays limit o (g.ballots i t x o) | inr n ↦ n ] in
            subst (λ y. ValidBallot δ more y t x) (sym e) valid
