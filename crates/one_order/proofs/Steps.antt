-- WHAT AN EVENT DOES to a server's log and state machine before anything is applied: the one pass over all events and messages in this
-- proof. Nothing but a request, and entries that are accepted, changes the log; the applied index, the store and the sessions stay.
use Rattle.std.proofs.Common.{◌≡◌, ℕ, suc, ◌-◌, Bool, true, false, eqb, ltb, ◌⊎◌, List, ◌∷◌, ◌++◌, refl, inl, inr}
use Rattle.servers.specs.Store.{pick, Command, Store}
use Rattle.servers.specs.Server.{Entry, Cached, Limits, State, Message, ask_vote, vote, append, appended}
use Rattle.servers.specs.Server.{Event, timeout, request, comes, restart, garbled}
use Rattle.servers.specs.Server.{last_index, up_to, entry_at, term_is, has_new, at_least, at_most, nth, next_for, grants, settled_to}
use Rattle.servers.specs.Server.{with_term, with_voted, with_match, with_next, with_send, with_commit, with_request, with_log}
use Rattle.servers.specs.Server.{following, advanced, wants, voted_on, after_append, heard, first_step, settles, sent_now}
use Rattle.servers.proofs.Tests.{pick_by}

-- what matters here of a server's state
pub record Core : Type 0 where
  pub log : List Entry
  pub applied : ℕ
  pub store : Store
  pub cache : List Cached

abbrev pub core : State → Core
core s = record { log = s.log; applied = s.applied; store = s.store; cache = s.cache }

-- the same with another log
abbrev core_with : List Entry → State → Core
core_with log s = record { log = log; applied = s.applied; store = s.store; cache = s.cache }

-- the entry that server l makes of a request
abbrev pub made_entry : Limits → State → ℕ → ℕ → Command → Entry
made_entry l s c k x = record { at = l.me; client = c; id = k; index = suc (last_index s.log); term = s.term; command = x }

-- whichever is chosen, if it holds of both
choose : (Q : Core → Type 0) (b : Bool) (x y : State) → Q (core x) → Q (core y) → Q (core (pick b x y))
choose Q b x y p q = pick_by (λ (z : State). Q (core z)) b x y (λ e. p) (λ e. q)

-- THE FIRST HALF OF AN EVENT. What holds of the old core, of that with a requested entry on top, and of every one with accepted
-- entries, holds afterwards.
module _ (Q : Core → Type 0) (l : Limits) (s : State) (old : Q (core s)) where
  abbrev Requested : Event → Type 0
  Requested e = (c k : ℕ) (x : Command) → e ≡ request c k x → Q (core_with (made_entry l s c k x ∷ s.log) s)

  -- entries that are accepted replace the log, or what was above the entry before them
  abbrev Replaced : ℕ → List Entry → List Entry → Type 0
  Replaced i es log = (log ≡ es) ⊎ (log ≡ es ++ up_to i s.log)

  abbrev Accepted : Event → Type 0
  Accepted e =
      (h t i u c : ℕ) (es log : List Entry) → e ≡ comes h (append t i u es c) → Replaced i es log → Q (core_with log s)

  advanced_by : (t : ℕ) → Q (core (advanced t s))
  advanced_by t = choose Q (ltb s.term t) (with_term t s) s old old

  append_by : (h t i u c : ℕ) (es log : List Entry) → Accepted (comes h (append t i u es c)) → Replaced i es log
      → Q (core (after_append s h t es c log))
  append_by h t i u c es log accepted how =
      let n : ℕ = at_least s.commit (at_most c (last_index log)) in
      let new : Q (core_with log s) = accepted h t i u c es log refl how in
      choose Q (has_new s es) _ _
      (pick_by (λ (y : State). Q (core (following h (with_log log n y)))) (ltb s.term t) (with_term t s) s (λ r. new) (λ r. new))
      (advanced_by t)

  heard_by : (h : ℕ) (m : Message) → Accepted (comes h m) → Q (core (heard l s h m))
  heard_by h (ask_vote t i u) accepted =
      choose Q (ltb t s.term) s _ old
      (choose Q (grants s h t i u) (with_voted h (advanced t s)) (advanced t s) (advanced_by t) (advanced_by t))
  heard_by h (vote t ok) accepted =
      choose Q (ltb s.term t) (advanced t s) _ (advanced_by t)
      (choose Q (ltb t s.term) s _ old (choose Q (eqb s.kind 1) (voted_on l h ok s) s old old))
  heard_by h (append t i u es c) accepted =
      choose Q (ltb t s.term) s _ old
      (choose Q (eqb i 0) (after_append s h t es c es) _ (append_by h t i u c es es accepted (inl refl))
      (choose Q (term_is (entry_at i s.log) u) (after_append s h t es c (es ++ up_to i s.log)) s
      (append_by h t i u c es (es ++ up_to i s.log) accepted (inr refl)) old))
  heard_by h (appended t i ok) accepted =
      choose Q (eqb s.term t) _ (advanced t s)
      (choose Q ok (with_match h (at_least (nth 0 s.matches h) i) (at_least (next_for s h) (suc i)) s)
      (with_next h (next_for s h - 1) s) old old)
      (advanced_by t)

  pub first_by : (e : Event) → Requested e → Accepted e → Q (core (first_step l s e))
  first_by timeout requested accepted = choose Q (eqb s.kind 2) (with_send true s) (wants l s) old old
  first_by (request c k x) requested accepted = choose Q (eqb s.kind 2) (with_request l c k x s) s (requested c k x refl) old
  first_by (comes h m) requested accepted = heard_by h m accepted
  first_by restart requested accepted = old
  first_by (garbled n) requested accepted = old

-- THEN A LEADER COMMITS what it may, and notes that it has sent: neither is seen here.
pub settles_by : (Q : Core → Type 0) (l : Limits) (s : State) → Q (core s) → Q (core (sent_now (settles l s)))
settles_by Q l s old =
    let settled : Q (core (settles l s)) = choose Q (eqb s.kind 2) (with_commit (settled_to l s s.log) s) s old old in
    choose Q (eqb (settles l s).kind 2) (with_send false (settles l s)) (settles l s) settled settled

-- So until anything is applied the applied index, the store and the sessions are as they were at s.
abbrev pub Steady : State → Core → Type 0
Steady s y = (y.applied ≡ s.applied) × (y.store ≡ s.store) × (y.cache ≡ s.cache)

pub first_steady : (l : Limits) (s : State) (e : Event) → Steady s (core (first_step l s e))
first_steady l s e =
    first_by (Steady s) l s (refl, refl, refl) e (λ c k x q. (refl, refl, refl)) (λ h t i u c es log q how. (refl, refl, refl))
