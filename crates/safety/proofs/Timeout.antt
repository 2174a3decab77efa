-- TIME IS UP at a server that doesn't lead: it moves to the next term, votes for itself with the log that it has, and asks the others.
-- What it acknowledged in earlier terms is in that log by `keeps` of the server, and so in its ballot.
use Rattle.std.proofs.Common.{◌≡◌, ℕ, suc, ◌<◌, ◌≤◌, true, false, ◌⊎◌, List, [], ◌∷◌, ◌++◌, refl, ap, ◌∙◌, inl, inr, arith}
use Rattle.servers.specs.Server.{Limits, State, Letter, Message, ask_vote, last_index, last_term, many, nth, set_at, to_others, wants}
use Rattle.servers.specs.World.{Sent, from}
use Rattle.std.proofs.lemmas.Bool.{false≢true}
use Rattle.std.proofs.lemmas.Bool.Decides.{nat_tests}
use Rattle.safety.proofs.Tables.{length_many, length_set_at, nth_set_by, nth_many_by}
use Rattle.safety.proofs.Letters.{all_others}
use Rattle.safety.proofs.Logs.{ascending_last}
use Rattle.safety.proofs.Ghost.{nothing, just, is_nothing, Ballot, Ghost, VotedFor, led}
use Rattle.safety.proofs.Invariant.{ValidLog, ValidBallot, Candidate, ServerInvariant, LetterInvariant, view, horizon}
use Rattle.safety.proofs.LogMatching.{valid_later}
use Rattle.safety.proofs.Prefixes.{committed_later}
use Rattle.safety.proofs.Growth.{valid_log_stays, prefix_stays}
use Rattle.safety.proofs.Turn.{Before, Turn, with_ballots, Silent, AllSilent, ack_silent, acked_silent}
use Rattle.safety.proofs.Voting.{one_more, cast_here, cast_either, cast_step, cast}

module _ (l : Limits) {was : Before} {s : State} {sent : List Sent} (a : Turn l.servers l.me was s sent) where
  abbrev me : ℕ
  me = l.me

  abbrev next : ℕ
  next = suc s.term

  abbrev ask : ℕ → Message
  ask h = ask_vote (suc s.term) (last_index s.log) (last_term s.log)

  abbrev asks : List Letter
  asks = to_others l.servers l.me (λ h. ask_vote (suc s.term) (last_index s.log) (last_term s.log))

  abbrev more : List Sent
  more = sent ++ from l.me asks

  -- its vote, for itself
  abbrev own : Ballot
  own = record { candidate = l.me; log = s.log }

  abbrev δ : Ghost
  δ = with_ballots a.γ (one_more a.γ me next own)

  silent : AllSilent me asks
  silent = all_others me l.servers me ask (λ x. Silent x.letter.message) (λ d. tt)

  -- it has not voted in a later term than its own
  fresh : a.γ.ballot me next ≡ nothing
  fresh = is_nothing _ (λ x e. let h = (a.mine.ballots next x e).0 in omega arith)

  valid : ValidLog δ s.log next
  valid = valid_later next (omega arith) (valid_log_stays (cast_step a next own asks silent fresh).extends a.mine.log)

  earlier : last_term s.log < next
  earlier = let h = ascending_last s.log s.term a.mine.log.ascending in omega arith

  own_valid : ValidBallot δ more me next own
  own_valid =
      record {
        log = valid;
        own = own;
        own_cast = cast_here a.γ me next own;
        own_self = refl;
        up_to_date = inr (refl, omega arith);
        earlier = λ e. earlier;
        keeps = λ u n lo h inherits.
            let wider : horizon (view s) ≤ next = grind (arith, nat_tests) in
            a.mine.keeps u n (acked_silent me asks silent (one_more a.γ me next own) h) (λ x p q. inherits x p (omega arith));
      }

  -- of the votes that it now counts, there is one, its own
  votes : (x : ℕ) → nth false (set_at (many l.servers false) me true) x ≡ true → VotedFor δ next me x
  votes =
      nth_set_by (λ x b. b ≡ true → VotedFor δ next me x) false (many l.servers false) me true
      (λ e. (own, cast_here a.γ me next own, refl))
      (nth_many_by (λ x b. b ≡ true → VotedFor δ next me x) l.servers false (λ x e. absurd (false≢true e)))

  candidate : Candidate δ me next s.log (set_at (many l.servers false) me true)
  candidate =
      record {
        own = cast_here a.γ me next own;
        earlier = earlier;
        not_elected = λ r q e. let h = a.mine.acks next 0 (led r q e (omega arith)) in omega arith;
        votes_cast = votes;
      }

  mine : ServerInvariant l.servers δ more me (view (wants l s))
  mine =
      let o = a.mine in
      record {
        log = valid;
        votes_size = length_set_at (many l.servers false) me true ∙ length_many l.servers false;
        matches_size = o.matches_size;
        ballots = λ t b q. ballots t b (cast_either a.γ me next own me t b q);
        candidate = λ e. candidate;
        leader = λ e. absurd (omega arith);
        acks = λ t n h. let z = o.acks t n (ack_silent me asks silent (one_more a.γ me next own) h) in omega arith;
        keeps = λ t n h inherits.
            let wider : horizon (view s) ≤ horizon (view (wants l s)) = grind (arith, nat_tests) in
            o.keeps t n (acked_silent me asks silent (one_more a.γ me next own) h) (λ x p q. inherits x p (omega arith));
        commit = λ h. committed_later next (omega arith) (prefix_stays (cast_step a next own asks silent fresh).extends (o.commit h));
      }
    where
      ballots : (t : ℕ) (b : Ballot) → (a.γ.ballot me t ≡ just b) ⊎ ((me ≡ me) × (t ≡ next) × (own ≡ b))
          → (t ≤ next) × (t ≡ next → me ∷ [] ≡ b.candidate ∷ [])
      ballots t b (inl old) = let h = (a.mine.ballots t b old).0 in (omega arith, λ e. absurd (omega arith))
      ballots t b (inr new) = let e = new.1 in (omega arith, λ e. ap (λ (y : Ballot). y.candidate ∷ []) new.2)

  pub timeout_keeps : Turn l.servers l.me was (wants l s) more
  timeout_keeps =
      cast a next own asks silent fresh (wants l s) own_valid mine
      (all_others me l.servers me ask (λ x. LetterInvariant l.servers δ more x)
      (λ d. (s.log, cast_here a.γ me next own, refl, refl)))
