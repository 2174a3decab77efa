-- What stays true as history grows: valid logs, acknowledgements, commits and letters, whoever it was that made it grow.
use Rattle.std.proofs.Common.{◌≡◌, ℕ, ◌+◌, ◌≤◌, true, false, List, [], ◌∷◌, ◌++◌, length, sym, refl, ap, ◌∙◌, arith}
use Rattle.servers.specs.Server.{Entry, last_index, entry_at, Message, ask_vote, vote, append, appended}
use Rattle.servers.specs.World.{Sent}
use Rattle.safety.proofs.Logs.{agree_entry, entry_within, prefix_within}
use Rattle.safety.proofs.Quorums.{quorum_map}
use Rattle.safety.proofs.Ghost.{Election, Ghost, VotedFor, Ack, replied, led, Acked, Committed, CommittedPrefix, Inherits, Extends}
use Rattle.safety.proofs.Prefixes.{committed_alike}
use Rattle.safety.proofs.Invariant.{FromLeader, ValidLog, ValidElection, Leader, ValidAppend, MessageInvariant}

-- history has grown, or not
pub extends_refl : (γ : Ghost) (sent : List Sent) → Extends γ sent γ sent
extends_refl γ sent =
    record {
      ballots = λ v t b q. q;
      elections = λ t r q. q;
      leader_logs = λ t n h. refl;
      longer = λ t. omega arith;
      letters = λ x h. h;
    }

pub extends_trans : {γ δ ε : Ghost} {sent more most : List Sent} → Extends γ sent δ more → Extends δ more ε most → Extends γ sent ε most
extends_trans a b =
    record {
      ballots = λ v t x q. b.ballots v t x (a.ballots v t x q);
      elections = λ t r q. b.elections t r (a.elections t r q);
      leader_logs = λ t n h. let l = a.longer t in b.leader_logs t n (omega arith) ∙ a.leader_logs t n h;
      longer = λ t. let l = a.longer t in let m = b.longer t in omega arith;
      letters = λ x h. b.letters x (a.letters x h);
    }

module _ {γ : Ghost} {sent : List Sent} {δ : Ghost} {more : List Sent} (grows : Extends γ sent δ more) where
  -- an entry of a leader's log stays where it is
  pub entry_stays : (t n : ℕ) (x : Entry) → entry_at n (γ.leader_log t) ≡ x ∷ [] → entry_at n (δ.leader_log t) ≡ x ∷ []
  entry_stays t n x q =
      let far = entry_within n (γ.leader_log t) x q in
      agree_entry n n (δ.leader_log t) (γ.leader_log t) (omega arith) (grows.leader_logs t n far) ∙ q

  -- a log that is a leader's up to an entry stays so, though that leader's log has got longer
  pub from_leader_stays : {l : List Entry} (n : ℕ) (e : Entry) → entry_at n l ≡ e ∷ [] → FromLeader γ l n e.term
      → FromLeader δ l n e.term
  from_leader_stays {l} n e p f =
      let there : entry_at n (γ.leader_log e.term) ≡ e ∷ [] =
      sym (agree_entry n n l (γ.leader_log e.term) (omega arith) f.same) ∙ p in
      let far = entry_within n (γ.leader_log e.term) e there in
      record {
        election = f.election;
        elected = grows.elections e.term f.election f.elected;
        same = f.same ∙ sym (grows.leader_logs e.term n far);
      }

  pub valid_log_stays : {l : List Entry} {t : ℕ} → ValidLog γ l t → ValidLog δ l t
  valid_log_stays v =
      record { contiguous = v.contiguous; ascending = v.ascending; matching = λ n e p. from_leader_stays n e p (v.matching n e p) }

  -- what was acknowledged stays acknowledged, and so what was committed stays committed
  pub ack_stays : {v t n : ℕ} → Ack γ sent v t n → Ack δ more v t n
  ack_stays (replied d x) = replied d (grows.letters _ x)
  ack_stays {v} {t} {n} (led r q e h) = let l = grows.longer t in led r (grows.elections t r q) e (omega arith)

  pub acked_stays : {v t n : ℕ} → Acked γ sent v t n → Acked δ more v t n
  acked_stays a = record { upto = a.upto; far = a.far; ack = ack_stays a.ack }

  pub committed_stays : {k n t : ℕ} → Committed k γ sent n t → Committed k δ more n t
  committed_stays {k} {n} {t} c =
      record {
        entry = c.entry;
        there = entry_stays t n c.entry c.there;
        of_term = c.of_term;
        quorum = quorum_map (λ v. Acked γ sent v t n) (λ v. Acked δ more v t n) (λ v a. acked_stays a) c.quorum;
      }

  pub prefix_stays : {k c t : ℕ} {l : List Entry} → CommittedPrefix k γ sent c t l → CommittedPrefix k δ more c t l
  prefix_stays {k} {c} {t} {l} p =
      let far = entry_within p.index (γ.leader_log p.in_term) p.committed.entry p.committed.there in
      let low = p.far in
      record {
        index = p.index;
        in_term = p.in_term;
        committed = committed_stays p.committed;
        far = p.far;
        low = p.low;
        same = p.same ∙ sym (grows.leader_logs p.in_term c (omega arith));
        inside = p.inside;
      }

  -- votes and elections stay
  pub voted_stays : {t c v : ℕ} → VotedFor γ t c v → VotedFor δ t c v
  voted_stays {t} {c} {v} b = (b.0, grows.ballots v t b.0 b.1, b.2)

  pub election_stays : {k t : ℕ} {r : Election} → ValidElection k γ t r → ValidElection k δ t r
  election_stays {k} {t} {r} v =
      record {
        votes = quorum_map (VotedFor γ t r.leader) (VotedFor δ t r.leader) (λ x b. voted_stays b) v.votes;
        own = grows.ballots r.leader t _ v.own;
        start = grows.leader_logs t (last_index r.log) (prefix_within r.log (γ.leader_log t) v.start) ∙ v.start;
      }

  -- a leader leads on, if it is not its own log that has grown
  pub leader_stays : {v t : ℕ} {l : List Entry} {ms : List ℕ} → δ.leader_log t ≡ γ.leader_log t → Leader γ sent v t l ms
      → Leader δ more v t l ms
  leader_stays {v} {t} same w =
      record {
        election = w.election;
        elected = grows.elections t w.election w.elected;
        itself = w.itself;
        all = same ∙ w.all;
        acked = λ x h. ack_stays (w.acked x h);
      }

  -- what is assumed of elections is assumed of fewer, before
  pub inherits_before : (n t u : ℕ) → n ≤ last_index (γ.leader_log t) → Inherits δ n t u → Inherits γ n t u
  inherits_before n t u far i r q = i r (grows.elections u r q) ∙ grows.leader_logs t n far

  -- what a letter says stays true
  append_stays : {k h t j u : ℕ} {es : List Entry} {c : ℕ} → ValidAppend k γ sent h t j u es c → ValidAppend k δ more h t j u es c
  append_stays {k} {h} {t} {j} {u} {es} {c} a =
      record {
        election = a.election;
        elected = grows.elections t a.election a.elected;
        sender = a.sender;
        before = λ p q. let x = a.before p q in (x.0, entry_stays t j x.0 x.1, x.2);
        within = λ p. let far = a.within p in let l = grows.longer t in omega arith;
        entries = λ p. let far = a.within p in
            ap (λ y. es ++ y) (grows.leader_logs t j (omega arith)) ∙ (a.entries p ∙ sym (grows.leader_logs t (j + length es) far));
        commit = λ p. commit (a.commit p);
      }
    where
      commit : CommittedPrefix k γ sent c t (γ.leader_log t) → CommittedPrefix k δ more c t (δ.leader_log t)
      commit p =
          let l = grows.longer t in
          let inside = p.inside in
          committed_alike (prefix_stays p) (δ.leader_log t) (grows.leader_logs t c inside) (omega arith)

  pub message_stays : (k h d : ℕ) (m : Message) → MessageInvariant k γ sent h d m → MessageInvariant k δ more h d m
  message_stays k h d (ask_vote t j u) o = (o.0, grows.ballots h t _ o.1, o.2, o.3)
  message_stays k h d (vote t true) o = voted_stays o
  message_stays k h d (vote t false) o = tt
  message_stays k h d (append t j u es c) o = append_stays o
  message_stays k h d (appended t n true) o = let l = grows.longer t in (o.0, grows.elections t o.0 o.1, omega arith)
  message_stays k h d (appended t n false) o = tt
