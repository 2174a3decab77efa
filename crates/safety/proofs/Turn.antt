-- ONE SERVER'S TURN. An event is a chain of small steps of one server. `Turn` is the invariant amidst it: the server's own state is s
-- already, the other servers are as before the event. `move` is the step; it owes what Frame leaves open. The rest are the moves that most
-- events share: the state alone changes (`change`), letters go out that acknowledge nothing (`say`), the term moves on (`later_term`).
use Rattle.std.proofs.Common.{◌≡◌, ℕ, ◌<◌, ◌≤◌, true, false, ltb, ◌⊎◌, List, [], ◌++◌, sym, refl, subst, inl, inr, append-nil, arith}
use Rattle.servers.specs.Server.{State, Letter, Message, ask_vote, vote, append, appended, with_term, advanced}
use Rattle.servers.specs.World.{Sent, In, from}
use Rattle.std.proofs.lemmas.Bool.Decides.{nat_tests}
use Rattle.servers.proofs.Tests.{pick_by}
use Rattle.safety.proofs.Letters.{in_left, in_either, from_by, old_or_new}
use Rattle.safety.proofs.Ghost.{Maybe, just, Ballot, Ghost, Ack, replied, led, Acked, Extends, OwnStep}
use Rattle.safety.proofs.Invariant.{GhostInvariant, ServerInvariant, LetterInvariant, view, horizon}
use Rattle.safety.proofs.LogMatching.{valid_later}
use Rattle.safety.proofs.Prefixes.{committed_later}
use Rattle.safety.proofs.Growth.{extends_trans, leader_stays, prefix_stays, message_stays}
use Rattle.safety.proofs.Frame.{Owed, LettersValid, others_stay, ghost_stays}

-- how it was before the event
pub record Before : Type 0 where
  pub states : ℕ → State
  pub ghost : Ghost
  pub sent : List Sent

pub record Turn (k me : ℕ) (was : Before) (s : State) (sent : List Sent) : Type 0 where
  pub γ : Ghost
  pub since : Extends was.ghost was.sent γ sent
  pub ghost : GhostInvariant k γ sent
  pub mine : ServerInvariant k γ sent me (view s)
  pub others : (v : ℕ) → (v ≡ me → ⊥) → ServerInvariant k γ sent v (view (was.states v))
  pub letters : LettersValid k γ sent

-- THE STEP: history grows by what is the server's own, and that is valid; its state and its new letters are in order
pub move : {k me : ℕ} {was : Before} {s : State} {sent : List Sent} (a : Turn k me was s sent) (δ : Ghost) (more : List Sent) (s' : State)
    → OwnStep me s.term a.γ sent δ more
    → Owed k me a.γ δ more
    → ServerInvariant k δ more me (view s')
    → ((x : Sent) → In x more → In x sent ⊎ LetterInvariant k δ more x)
    → Turn k me was s' more
move {k} a δ more s' step owed mine new =
    record {
      γ = δ;
      since = extends_trans a.since step.extends;
      ghost = ghost_stays step a.letters (λ t x q. (a.mine.ballots t x q).0) owed a.ghost;
      mine = mine;
      others = λ v ne. others_stay step a.letters ne (a.others v ne);
      letters = λ x h. elim (new x h) [
        | inl old ↦ message_stays step.extends k x.by x.letter.to x.letter.message (a.letters x old)
        | inr n ↦ n
      ];
    }

-- THE STATE ALONE CHANGES
abbrev pub change : {k me : ℕ} {was : Before} {s : State} {sent : List Sent} (a : Turn k me was s sent) (s' : State)
    → ServerInvariant k a.γ sent me (view s') → Turn k me was s' sent
change a s' mine = record { γ = a.γ; since = a.since; ghost = a.ghost; mine = mine; others = a.others; letters = a.letters }

-- nothing of it that matters here
pub change_unseen : {k me : ℕ} {was : Before} {s : State} {sent : List Sent} (a : Turn k me was s sent) (s' : State)
    → view s' ≡ view s → Turn k me was s' sent
change_unseen {k} {me} {was} {s} {sent} a s' e = change a s' (subst (λ y. ServerInvariant k a.γ sent me y) (sym e) a.mine)

-- VOTES ARE CAST, AND LETTERS GO OUT THAT ACKNOWLEDGE NOTHING

-- the ghost with other ballots
abbrev pub with_ballots : Ghost → (ℕ → ℕ → Maybe Ballot) → Ghost
with_ballots γ f = record { ballot = f; elected = γ.elected; leader_log = γ.leader_log }

abbrev pub Silent : Message → Type 0
Silent (ask_vote t i u) = Unit {0}
Silent (vote t ok) = Unit {0}
Silent (append t i u es c) = Unit {0}
Silent (appended t n true) = ⊥
Silent (appended t n false) = Unit {0}

abbrev pub AllSilent : ℕ → List Letter → Type 0
AllSilent i ls = (x : Sent) → In x (from i ls) → Silent x.letter.message

module _ {γ : Ghost} {sent : List Sent} (i : ℕ) (ls : List Letter) (silent : AllSilent i ls) (f : ℕ → ℕ → Maybe Ballot) where
  -- nobody has acknowledged anything anew
  pub ack_silent : {v t n : ℕ} → Ack (with_ballots γ f) (sent ++ from i ls) v t n → Ack γ sent v t n
  ack_silent (replied d x) = elim (in_either _ sent (from i ls) x) [ inl old ↦ replied d old | inr new ↦ absurd (silent _ new) ]
  ack_silent (led r q e h) = led r q e h

  pub acked_silent : {v t n : ℕ} → Acked (with_ballots γ f) (sent ++ from i ls) v t n → Acked γ sent v t n
  acked_silent a = record { upto = a.upto; far = a.far; ack = ack_silent a.ack }

  pub step_silent : (b : ℕ) → ((v t : ℕ) (x : Ballot) → γ.ballot v t ≡ just x → f v t ≡ just x)
      → ((v t : ℕ) (x : Ballot) → f v t ≡ just x → (γ.ballot v t ≡ just x) ⊎ (v ≡ i))
      → OwnStep i b γ sent (with_ballots γ f) (sent ++ from i ls)
  step_silent b stay new =
      record {
        extends = record {
          ballots = stay;
          elections = λ t r q. q;
          leader_logs = λ t n h. refl;
          longer = λ t. omega arith;
          letters = λ x h. in_left x sent (from i ls) h;
        };
        ballots_new = new;
        elections_new = λ t r q. inl (q, refl);
        letters_new = λ x h. elim (in_either x sent (from i ls) h) [ inl old ↦ inl old | inr n ↦ inr (from_by i ls x n) ];
        acks_new = λ t n a. inl (acked_silent a);
      }

-- a step that changes no ghost owes nothing
pub owes_nothing : {k me : ℕ} {was : Before} {s : State} {sent : List Sent} (a : Turn k me was s sent) (more : List Sent)
    → Owed k me a.γ a.γ more
owes_nothing a more =
    record { ballots = λ t x q. inl q; elections = λ t r q. inl q; leader_logs = λ t. inl refl; no_leader = a.ghost.no_leader }

module _ {k me : ℕ} {was : Before} {s : State} {sent : List Sent} (a : Turn k me was s sent) (ls : List Letter)
    (silent : AllSilent me ls) where
  own_step : OwnStep me s.term a.γ sent a.γ (sent ++ from me ls)
  own_step = step_silent me ls silent a.γ.ballot s.term (λ v t x q. q) (λ v t x q. inl q)

  -- the server keeps its own promises
  still_mine : ServerInvariant k a.γ (sent ++ from me ls) me (view s)
  still_mine =
      let o = a.mine in
      record {
        log = o.log;
        votes_size = o.votes_size;
        matches_size = o.matches_size;
        ballots = o.ballots;
        candidate = o.candidate;
        leader = λ e. leader_stays own_step.extends refl (o.leader e);
        acks = λ t n h. o.acks t n (ack_silent me ls silent a.γ.ballot h);
        keeps = λ t n h inherits. o.keeps t n (acked_silent me ls silent a.γ.ballot h) inherits;
        commit = λ h. prefix_stays own_step.extends (o.commit h);
      }

  -- IT SAYS SOMETHING that holds, and acknowledges nothing
  pub say : ((x : Sent) → In x (from me ls) → LetterInvariant k a.γ sent x) → Turn k me was s (sent ++ from me ls)
  say holds =
      move a a.γ (sent ++ from me ls) s own_step (owes_nothing a (sent ++ from me ls)) still_mine
      (old_or_new me sent ls (LetterInvariant k a.γ (sent ++ from me ls))
      (λ x h. message_stays own_step.extends k x.by x.letter.to x.letter.message (holds x h)))

-- it says nothing
pub say_nothing : {k me : ℕ} {was : Before} {s : State} {sent : List Sent} → Turn k me was s sent → Turn k me was s (sent ++ from me [])
unfolding from
say_nothing a = rw append-nil a

-- THE TERM MOVES ON: it follows, and has neither voted nor heard of a leader in the new term
pub later_term : {k : ℕ} {γ : Ghost} {sent : List Sent} {v : ℕ} (s : State) (t : ℕ) → s.term < t
    → ServerInvariant k γ sent v (view s) → ServerInvariant k γ sent v (view (with_term t s))
later_term s t later o =
    record {
      log = valid_later t (omega arith) o.log;
      votes_size = o.votes_size;
      matches_size = o.matches_size;
      ballots = λ u b q. let h = (o.ballots u b q).0 in (omega arith, λ e. absurd (omega arith));
      candidate = λ e. absurd (omega arith);
      leader = λ e. absurd (omega arith);
      acks = λ u n h. let z = o.acks u n h in omega arith;
      keeps = λ u n h inherits.
          let wider : horizon (view s) ≤ t = grind (arith, nat_tests) in o.keeps u n h (λ x p q. inherits x p (omega arith));
      commit = λ h. committed_later t (omega arith) (o.commit h);
    }

pub advance : {k me : ℕ} {was : Before} {s : State} {sent : List Sent} → Turn k me was s sent → (t : ℕ) → Turn k me was (advanced t s) sent
advance {k} {me} {was} {s} {sent} a t =
    pick_by (λ x. Turn k me was x sent) (ltb s.term t) (with_term t s) s
    (λ e. change a (with_term t s) (later_term s t (grind (arith, nat_tests)) a.mine))
    (λ e. a)
