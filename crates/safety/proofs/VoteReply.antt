-- A VOTE COMES to a candidate. It is counted; with a quorum of votes the candidate leads, with the log that it has.
-- ELECTION SAFETY is here: a quorum voted for each that is elected, two quorums share a voter, and a voter has one ballot in a term. So
-- who has a quorum is the first to be elected in its term (`nobody_elected`).
use Rattle.std.proofs.Common.{◌≡◌, ℕ, ◌<◌, ◌≤◌, Bool, true, false, eqb, ltb, ◌⊎◌, List, [], length, sym, refl, ap, ◌∙◌, subst, inr, arith}
use Rattle.servers.specs.Store.{pick}
use Rattle.servers.specs.Server.{Limits, State, vote, last_index, many, nth, set_at, count, won, advanced, voted_on, hears_vote}
use Rattle.servers.specs.World.{Sent}
use Rattle.std.proofs.lemmas.Bool.Decides.{nat_tests}
use Rattle.servers.proofs.Tests.{bool_by, pick_by}
use Rattle.safety.proofs.Tables.{length_many, length_set_at, nth_set_by, nth_many_by}
use Rattle.safety.proofs.Logs.{up_to_all, agree_at_zero}
use Rattle.safety.proofs.Quorums.{Most, Quorum, quorums_meet, quorum_of_votes}
use Rattle.safety.proofs.Ghost.{nothing, just, is_nothing, Ballot, Election, VotedFor, Ack}
use Rattle.safety.proofs.Invariant.{Candidate, ServerInvariant, MessageInvariant, view}
use Rattle.safety.proofs.Turn.{Before, Turn, change, advance}
use Rattle.safety.proofs.LeaderLog.{LeadsWith, leads}

-- a candidate that has a quorum of votes
module _ {k me : ℕ} {was : Before} {s : State} {sent : List Sent} (a : Turn k me was s sent)
    (c : Candidate a.γ me s.term s.log s.votes) (most : Most k (count s.votes)) where
  its_quorum : Quorum k (VotedFor a.γ s.term me)
  its_quorum = quorum_of_votes (VotedFor a.γ s.term me) s.votes a.mine.votes_size most c.votes_cast

  nobody_elected : a.γ.elected s.term ≡ nothing
  nobody_elected = is_nothing _ (λ r q.
      let others = (a.ghost.elections s.term r q).votes in
      let common = quorums_meet (VotedFor a.γ s.term me) (VotedFor a.γ s.term r.leader) its_quorum others in
      let one : just common.1.0 ≡ just common.2.0 = sym common.1.1 ∙ common.2.1 in
      let same : common.1.0 ≡ common.2.0 = cc in
      c.not_elected r q (sym common.2.2 ∙ (ap (λ (y : Ballot). y.candidate) (sym same) ∙ common.1.2)))

  abbrev election : Election
  election = record { leader = me; log = s.log }

  -- it knows of its own log alone
  abbrev ms : List ℕ
  ms = set_at (many k 0) me (last_index s.log)

  abbrev Believes : ℕ → ℕ → Type 0
  Believes x n = 0 < n → Ack a.γ sent x s.term n ⊎ ((x ≡ me) × (n ≤ last_index s.log))

  leads_with : LeadsWith k me a.γ sent s election s.log ms
  leads_with =
      let none : a.γ.leader_log s.term ≡ [] = a.ghost.no_leader s.term nobody_elected in
      record {
        alone = λ x q. let h = nobody_elected in let z : ◌≡◌ {A = ℕ} 0 1 = cc in absurd (omega arith);
        itself = refl;
        votes = its_quorum;
        own = c.own;
        start = up_to_all (last_index s.log) s.log (omega arith);
        leaders_stays = λ n h. rw none (let low : n ≤ 0 = rw none at h in let zero : n ≡ 0 = omega arith in
            rw zero (agree_at_zero s.log [] a.mine.log.contiguous tt));
        leaders_longer = rw none (omega arith);
        own_stays = λ n h. refl;
        own_longer = omega arith;
        contiguous = a.mine.log.contiguous;
        ascending = a.mine.log.ascending;
        entries = λ n e q. inr q;
        matches = nth_set_by Believes 0 (many k 0) me (last_index s.log)
            (λ p. inr (refl, omega arith))
            (nth_many_by Believes k 0 (λ x p. absurd (omega arith)));
        matches_size = length_set_at (many k 0) me (last_index s.log) ∙ length_many k 0;
      }

  wins : (s' : State) → view s' ≡ record {
    term = s.term;
    voted = s.voted;
    leader = s.leader;
    log = s.log;
    commit = s.commit;
    matches = ms;
    votes = s.votes;
    kind = 2;
  } → Turn k me was s' sent
  wins s' e = leads a s.votes a.mine.votes_size leads_with s' e

-- a vote is counted, and the matches are set back
abbrev polled : Limits → List Bool → ℕ → State → State
polled l vs kind s =
    record {
      term = s.term;
      voted = s.voted;
      leader = s.leader;
      log = s.log;
      commit = s.commit;
      applied = s.applied;
      store = s.store;
      nexts = many l.servers [];
      matches = set_at (many l.servers 0) l.me (last_index s.log);
      send = s.send;
      votes = vs;
      kind = kind;
      cache = s.cache;
    }

module _ (l : Limits) {was : Before} {s : State} {sent : List Sent} (a : Turn l.servers l.me was s sent) (h : ℕ) where
  counted : s.kind ≡ 1 → (vs : List Bool) → length vs ≡ l.servers
      → ((x : ℕ) → nth false vs x ≡ true → VotedFor a.γ s.term l.me x)
      → ServerInvariant l.servers a.γ sent l.me (view (polled l vs s.kind s))
  counted one vs size votes =
      let o = a.mine in
      record {
        log = o.log;
        votes_size = size;
        matches_size = length_set_at (many l.servers 0) l.me (last_index s.log) ∙ length_many l.servers 0;
        ballots = o.ballots;
        candidate = λ e. let c = o.candidate e in
            record { own = c.own; earlier = c.earlier; not_elected = c.not_elected; votes_cast = votes };
        leader = λ e. absurd (omega arith);
        acks = o.acks;
        keeps = o.keeps;
        commit = o.commit;
      }

  -- by a candidate, in its term
  polls : (ok : Bool) → MessageInvariant l.servers a.γ sent h l.me (vote s.term ok) → s.kind ≡ 1
      → Turn l.servers l.me was (voted_on l h ok s) sent
  polls false o one = change a (voted_on l h false s) (counted one s.votes a.mine.votes_size (a.mine.candidate one).votes_cast)
  polls true o one =
      let vs : List Bool = set_at s.votes h true in
      let size : length vs ≡ l.servers = length_set_at s.votes h true ∙ a.mine.votes_size in
      let votes = nth_set_by (λ x b. b ≡ true → VotedFor a.γ s.term l.me x) false s.votes h true
      (λ e. o) (a.mine.candidate one).votes_cast in
      let b = change a (polled l vs s.kind s) (counted one vs size votes) in
      bool_by (λ z. Turn l.servers l.me was (polled l vs (pick z 2 s.kind) s) sent) (won l vs)
      (λ e. wins b (b.mine.candidate one) (grind (arith, nat_tests)) _ refl)
      (λ e. b)

  abbrev T : State → Type 0
  T x = Turn l.servers l.me was x sent

  pub vote_reply_keeps : (t : ℕ) (ok : Bool) → MessageInvariant l.servers a.γ sent h l.me (vote t ok)
      → Turn l.servers l.me was (hears_vote l s h t ok) sent
  vote_reply_keeps t ok o =
      pick_by T (ltb s.term t) (advanced t s) (pick (ltb t s.term) s (pick (eqb s.kind 1) (voted_on l h ok s) s))
      (λ e. advance a t)
      (λ e. pick_by T (ltb t s.term) s (pick (eqb s.kind 1) (voted_on l h ok s) s)
      (λ f. a)
      (λ f. pick_by T (eqb s.kind 1) (voted_on l h ok s) s
      (λ q. let same : t ≡ s.term = grind (arith, nat_tests) in
      polls ok (subst (λ y. MessageInvariant l.servers a.γ sent h l.me (vote y ok)) same o) (grind (arith, nat_tests)))
      (λ q. a)))
