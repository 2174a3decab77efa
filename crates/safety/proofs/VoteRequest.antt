-- A SERVER IS ASKED FOR ITS VOTE. It votes if it knows of no leader of that term, has not voted for another, and the candidate's log is at
-- least as up to date as its own. Its ballot remembers its log: since it follows no leader of the term, what it acknowledged is in that
-- log under the elections before this term alone, which is just what `keeps` of a ballot says.
use Rattle.std.proofs.Common.{◌≡◌, ℕ, ◌<◌, ◌≤◌, Bool, true, false, not, ◌&&◌, ltb, ◌⊎◌, List, [], ◌∷◌, ◌++◌, sym, refl, ap, ◌∙◌, subst, inl, inr, arith}
use Rattle.servers.specs.Store.{pick}
use Rattle.servers.specs.Server.{Entry, State, Letter, ask_vote, vote, last_index, last_term, empty, as_new, may_vote, with_voted}
use Rattle.servers.specs.Server.{with_term, advanced, asked, back}
use Rattle.servers.specs.World.{Sent, from}
use Rattle.std.proofs.lemmas.Bool.{cases_lt, and_parts}
use Rattle.std.proofs.lemmas.Bool.Decides.{nat_tests}
use Rattle.servers.proofs.Tests.{bool_by}
use Rattle.safety.proofs.Letters.{all_one}
use Rattle.safety.proofs.Ghost.{Maybe, nothing, just, Ballot, Ghost, UpToDate}
use Rattle.safety.proofs.Invariant.{ValidLog, ValidBallot, ServerInvariant, LetterInvariant, View, view, horizon}
use Rattle.safety.proofs.Growth.{valid_log_stays, leader_stays, prefix_stays}
use Rattle.safety.proofs.Turn.{Before, Turn, change, say, later_term, with_ballots, Silent, AllSilent, ack_silent, acked_silent}
use Rattle.safety.proofs.Voting.{one_more, cast_here, cast_before, cast_either, cast_step, cast}

-- what is known of who asks: it voted for itself in term t, with a log that ends as it says
abbrev Asks : Ghost → ℕ → ℕ → ℕ → ℕ → Type 0
Asks γ h t i u = (l : List Entry) × (γ.ballot h t ≡ just (record { candidate = h; log = l })) × (last_index l ≡ i) × (last_term l ≡ u)

abbrev reply : ℕ → ℕ → Bool → List Letter
reply h t ok = record { to = h; message = vote t ok } ∷ []

pub silent_reply : (me h t : ℕ) (ok : Bool) → AllSilent me (reply h t ok)
silent_reply me h t ok = all_one me _ (λ x. Silent x.letter.message) tt

-- the state with another vote
abbrev having_voted : List ℕ → State → View
having_voted y s =
    record {
      term = s.term;
      voted = y;
      leader = s.leader;
      log = s.log;
      commit = s.commit;
      matches = s.matches;
      votes = s.votes;
      kind = s.kind;
    }

-- it votes, in its own term
module _ {k me : ℕ} {was : Before} {s : State} {sent : List Sent} (a : Turn k me was s sent) (h i u : ℕ) (other : h ≡ me → ⊥)
    (asks : Asks a.γ h s.term i u) (free : empty s.leader ≡ true) (new : as_new i u s ≡ true)
    (may : may_vote s.voted h ≡ true) where
  abbrev granted : List Letter
  granted = reply h s.term true

  abbrev more : List Sent
  more = sent ++ from me granted

  silent : AllSilent me granted
  silent = silent_reply me h s.term true

  -- for the second time: the ballot is there, and for the same candidate
  votes_again : (x : Ballot) → a.γ.ballot me s.term ≡ just x → Turn k me was (with_voted h s) more
  votes_again x q =
      let voted = (a.mine.ballots s.term x q).1 refl in
      let asked_again : may_vote (x.candidate ∷ []) h ≡ true = rw voted at may in
      let same : x.candidate ≡ h = grind (arith, nat_tests) in
      let b : Turn k me was s more = say a granted silent (all_one me _ (λ y. LetterInvariant k a.γ sent y) (x, q, same)) in
      let now : s.voted ≡ h ∷ [] = voted ∙ ap (λ y. y ∷ []) same in
      change b (with_voted h s) (subst (λ y. ServerInvariant k b.γ more me (having_voted y s)) now b.mine)

  -- for the first time
  module _ (fresh : a.γ.ballot me s.term ≡ nothing) where
    abbrev x : Ballot
    x = record { candidate = h; log = s.log }

    abbrev ballots : ℕ → ℕ → Maybe Ballot
    ballots = one_more a.γ me s.term x

    abbrev δ : Ghost
    δ = with_ballots a.γ ballots

    valid : ValidLog δ s.log s.term
    valid = valid_log_stays (cast_step a s.term x granted silent fresh).extends a.mine.log

    up_to_date : UpToDate asks.0 s.log
    up_to_date = go (cases_lt (last_term s.log) u)
      where
        go : (last_term s.log < u) ⊎ (u ≤ last_term s.log) → UpToDate asks.0 s.log
        go (inl p) = let e = asks.3 in inl (omega arith)
        go (inr p) = let e = asks.3 in let f = asks.2 in let n = new in inr (grind (arith, nat_tests), grind (arith, nat_tests))

    ballot_valid : ValidBallot δ more me s.term x
    ballot_valid =
        record {
          log = valid;
          own = record { candidate = h; log = asks.0 };
          own_cast = cast_before a.γ me s.term x fresh h s.term _ asks.1;
          own_self = refl;
          up_to_date = up_to_date;
          earlier = λ e. absurd (other e);
          keeps = λ t n lo acked inherits.
              let here : horizon (view s) ≡ s.term = rw free in
              a.mine.keeps t n (acked_silent me granted silent ballots acked) (λ y p q. inherits y p (omega arith));
        }

    mine : ServerInvariant k δ more me (view (with_voted h s))
    mine =
        let o = a.mine in
        record {
          log = valid;
          votes_size = o.votes_size;
          matches_size = o.matches_size;
          ballots = λ t b q. its_ballot t b (cast_either a.γ me s.term x me t b q);
          candidate = λ e. absurd (not_yet (o.candidate e).own);
          leader = λ e. leader_stays (cast_step a s.term x granted silent fresh).extends refl (o.leader e);
          acks = λ t n p. o.acks t n (ack_silent me granted silent ballots p);
          keeps = λ t n p inherits. o.keeps t n (acked_silent me granted silent ballots p) inherits;
          commit = λ p. prefix_stays (cast_step a s.term x granted silent fresh).extends (o.commit p);
        }
      where
        not_yet : {y : Ballot} → a.γ.ballot me s.term ≡ just y → ⊥
        not_yet q = let z : ◌≡◌ {A = ℕ} 0 1 = cc in omega arith

        its_ballot : (t : ℕ) (b : Ballot) → (a.γ.ballot me t ≡ just b) ⊎ ((me ≡ me) × (t ≡ s.term) × (x ≡ b))
            → (t ≤ s.term) × (t ≡ s.term → h ∷ [] ≡ b.candidate ∷ [])
        its_ballot t b (inl old) = let low = (a.mine.ballots t b old).0 in (low, λ e. absurd (not_yet (rw e at old)))
        its_ballot t b (inr now) = let e = now.1 in (omega arith, λ e. ap (λ (y : Ballot). y.candidate ∷ []) now.2)

    votes_first : Turn k me was (with_voted h s) more
    votes_first =
        cast a s.term x granted silent fresh (with_voted h s) ballot_valid mine
        (all_one me _ (λ y. LetterInvariant k δ more y) (x, cast_here a.γ me s.term x, refl))

  votes_by : (m : Maybe Ballot) → a.γ.ballot me s.term ≡ m → Turn k me was (with_voted h s) more
  votes_by nothing q = votes_first q
  votes_by (just x) q = votes_again x q

  votes : Turn k me was (with_voted h s) more
  votes = votes_by _ refl

-- in its own term it votes or not
abbrev agrees : State → ℕ → ℕ → ℕ → Bool
agrees s h i u = (empty s.leader && as_new i u s) && may_vote s.voted h

decide : {k me : ℕ} {was : Before} {s : State} {sent : List Sent} (a : Turn k me was s sent) (h i u : ℕ) → (h ≡ me → ⊥)
    → Asks a.γ h s.term i u
    → Turn k me was (pick (agrees s h i u) (with_voted h s) s) (sent ++ from me (reply h s.term (agrees s h i u)))
decide {k} {me} {was} {s} {sent} a h i u other asks =
    bool_by (λ ok. Turn k me was (pick ok (with_voted h s) s) (sent ++ from me (reply h s.term ok))) (agrees s h i u)
    (λ e. let p = and_parts (empty s.leader && as_new i u s) (may_vote s.voted h) e in
    let q = and_parts (empty s.leader) (as_new i u s) p.0 in
    votes a h i u other asks q.0 q.1 p.1)
    (λ e. say a (reply h s.term false) (silent_reply me h s.term false) (all_one me _ (λ x. LetterInvariant k a.γ sent x) tt))

-- asked in an earlier term it says no; else it moves to that term, and decides
pub vote_request_keeps : {k me : ℕ} {was : Before} {s : State} {sent : List Sent} (a : Turn k me was s sent) (h t i u : ℕ) → (h ≡ me → ⊥)
    → Asks a.γ h t i u → Turn k me was (asked s h t i u) (sent ++ from me (back s h (ask_vote t i u)))
vote_request_keeps {k} {me} {was} {s} {sent} a h t i u other asks =
    bool_by (λ old. Turn k me was
    (pick old s (pick (not old && agrees (advanced t s) h i u) (with_voted h (advanced t s)) (advanced t s)))
    (sent ++ from me (reply h (pick old s.term t) (not old && agrees (advanced t s) h i u))))
    (ltb t s.term)
    (λ e. say a (reply h s.term false) (silent_reply me h s.term false) (all_one me _ (λ x. LetterInvariant k a.γ sent x) tt))
    (λ e. bool_by (λ later. let z : State = pick later (with_term t s) s in
    Turn k me was (pick (agrees z h i u) (with_voted h z) z) (sent ++ from me (reply h t (agrees z h i u))))
    (ltb s.term t)
    (λ f. decide (change a (with_term t s) (later_term s t (grind (arith, nat_tests)) a.mine)) h i u other asks)
    (λ f. let same : t ≡ s.term = grind (arith, nat_tests) in
    subst (λ y. Turn k me was (pick (agrees s h i u) (with_voted h s) s) (sent ++ from me (reply h y (agrees s h i u)))) (sym same)
    (decide a h i u other (subst (λ y. Asks a.γ h y i u) same asks))))
