-- TERMS AND COMMIT INDICES NEVER FALL, and a vote once given stays as long as the term, whatever happens. By the definitions alone:
-- neither the invariant nor that the program is right is asked for.
use Rattle.std.proofs.Common.{◌≡◌, ℕ, suc, ◌-◌, ◌<◌, ◌≤◌, Bool, true, not, ◌&&◌, eqb, ltb, List, [], ◌∷◌, ◌++◌, sym, ap, ◌∙◌, subst, arith}
use Rattle.servers.specs.Store.{pick}
use Rattle.servers.specs.Server.{Entry, Limits, State, Message, ask_vote, vote, append, appended, Event, timeout, request, comes, restart}
use Rattle.servers.specs.Server.{garbled, last_index, up_to, entry_at, term_is, has_new, at_least, at_most, nth, next_for, grants}
use Rattle.servers.specs.Server.{settled_to, with_term, advanced, following, with_log, with_voted, with_match, with_next, with_commit}
use Rattle.servers.specs.Server.{with_send, with_request, after_append, voted_on, heard, wants, settles, sent_now, after_all, ends_there}
use Rattle.servers.specs.Server.{first_step, stepped, turned, after, empty, as_new, may_vote}
use Rattle.servers.specs.World.{Program, Group, limits, Happening, World, new_world, happens, Lived}
use Rattle.servers.specs.Promise.{at_server, readable_world}
use Rattle.std.proofs.lemmas.Bool.{and_parts}
use Rattle.std.proofs.lemmas.Bool.Decides.{nat_tests}
use Rattle.safety.specs.Safety.{Until, at_moment}
use Rattle.servers.proofs.Tests.{bool_by, pick_by}
use Rattle.safety.proofs.Invariant.{View, view}
use Rattle.safety.proofs.Unseen.{finished_unseen, sent_unseen}
use Rattle.safety.proofs.Induction.{Step, worlds_by, each_server}

-- in one term a vote stays
abbrev pub VoteStays : State → View → Type 0
VoteStays s y = s.term ≡ y.term → (c : ℕ) → s.voted ≡ c ∷ [] → y.voted ≡ c ∷ []

-- from state s to what is seen of another
abbrev pub RisesTo : State → View → Type 0
RisesTo s y = (s.term ≤ y.term) × (s.commit ≤ y.commit) × VoteStays s y

abbrev pub Rises : State → State → Type 0
Rises s y = RisesTo s (view y)

same : (s : State) → Rises s s
same s = (omega arith, omega arith, λ e c q. q)

rises_trans : (a b c : State) → Rises a b → Rises b c → Rises a c
rises_trans a b c p q =
    let p0 = p.0 in
    let p1 = p.1 in
    let q0 = q.0 in
    let q1 = q.1 in
    (omega arith, omega arith, λ e v had. q.2 (omega arith) v (p.2 (omega arith) v had))

-- whichever is chosen
chosen : (s : State) (b : Bool) (x y : State) → Rises s x → Rises s y → Rises s (pick b x y)
chosen s b x y p q = pick_by (Rises s) b x y (λ e. p) (λ e. q)

module _ (l : Limits) (s : State) where
  advanced_rises : (t : ℕ) → Rises s (advanced t s)
  advanced_rises t =
      pick_by (Rises s) (ltb s.term t) (with_term t s) s
      (λ e. let up : s.term < t = grind (arith, nat_tests) in (omega arith, omega arith, λ q. absurd (omega arith)))
      (λ e. same s)

  append_rises : (h t : ℕ) (es : List Entry) (c : ℕ) (log : List Entry) → Rises s (after_append s h t es c log)
  append_rises h t es c log =
      let n : ℕ = at_least s.commit (at_most c (last_index log)) in
      let up : s.commit ≤ n = grind (arith, nat_tests) in
      chosen s (has_new s es) _ _
      (pick_by (λ (y : State). Rises s (following h (with_log log n y))) (ltb s.term t) (with_term t s) s
      (λ e. let more : s.term < t = grind (arith, nat_tests) in (omega arith, up, λ q. absurd (omega arith)))
      (λ e. (omega arith, up, λ q v had. had)))
      (advanced_rises t)

  -- who is voted for in a term in which the server has voted is whom it voted for
  vote_rises : (h t i u : ℕ) → grants s h t i u ≡ true → Rises s (with_voted h (advanced t s))
  vote_rises h t i u =
      bool_by (λ b. let a : State = pick b (with_term t s) s in
      (not (ltb t s.term) && ((empty a.leader && as_new i u a) && may_vote a.voted h)) ≡ true → Rises s (with_voted h a))
      (ltb s.term t)
      (λ e g. let up : s.term < t = grind (arith, nat_tests) in (omega arith, omega arith, λ q. absurd (omega arith)))
      (λ e g. (omega arith, omega arith, λ q c had. again c had (and_parts (empty s.leader && as_new i u s) _ (and_parts _ _ g).1).1))
    where
      again : (c : ℕ) → s.voted ≡ c ∷ [] → may_vote s.voted h ≡ true → h ∷ [] ≡ c ∷ []
      again c had may =
          let it : may_vote (c ∷ []) h ≡ true = rw had at may in
          let same : c ≡ h = grind (arith, nat_tests) in
          ap (λ y. y ∷ []) (sym same)

  message_rises : (h : ℕ) (m : Message) → Rises s (heard l s h m)
  message_rises h (ask_vote t i u) =
      chosen s (ltb t s.term) s _ (same s)
      (pick_by (Rises s) (grants s h t i u) (with_voted h (advanced t s)) (advanced t s) (vote_rises h t i u) (λ e. advanced_rises t))
  message_rises h (vote t ok) =
      chosen s (ltb s.term t) _ _ (advanced_rises t)
      (chosen s (ltb t s.term) s _ (same s) (chosen s (eqb s.kind 1) (voted_on l h ok s) s (same s) (same s)))
  message_rises h (append t i u es c) =
      chosen s (ltb t s.term) s _ (same s)
      (chosen s (eqb i 0) _ _ (append_rises h t es c es)
      (chosen s (term_is (entry_at i s.log) u) _ s (append_rises h t es c (es ++ up_to i s.log)) (same s)))
  message_rises h (appended t i ok) =
      chosen s (eqb s.term t) _ _
      (chosen s ok (with_match h (at_least (nth 0 s.matches h) i) (at_least (next_for s h) (suc i)) s)
      (with_next h (next_for s h - 1) s) (same s) (same s))
      (advanced_rises t)

  first_rises : (e : Event) → Rises s (first_step l s e)
  first_rises timeout =
      chosen s (eqb s.kind 2) (with_send true s) (wants l s) (same s) (omega arith, omega arith, λ q. absurd (omega arith))
  first_rises (request c k x) = chosen s (eqb s.kind 2) (with_request l c k x s) s (same s) (same s)
  first_rises (comes h m) = message_rises h m
  first_rises restart = same s
  first_rises (garbled n) = same s

settled_up : (l : Limits) (s : State) (es : List Entry) → s.commit ≤ settled_to l s es
unfolding settled_to
settled_up l s [] = omega arith
settled_up l s (e ∷ es) = let ih = settled_up l s es in grind (arith, nat_tests)

-- what follows the first step
rest_rises : (l : Limits) (s : State) → Rises s (after_all l s)
rest_rises l s =
    subst (RisesTo s) (sym (finished_unseen (sent_now (settles l s)) ∙ sent_unseen (settles l s)))
    (chosen s (eqb s.kind 2) (with_commit (settled_to l s s.log) s) s
    (omega arith, settled_up l s s.log, λ q c had. had) (same s))

pub event_rises : (l : Limits) (s : State) (e : Event) → Rises s (after l s e)
event_rises l s e =
    let f : State = first_step l s e in
    chosen s (eqb (turned l s e) 0) (stepped l s e) s
    (chosen s (ends_there e) f (after_all l f) (first_rises l s e) (rises_trans s f (after_all l f) (first_rises l s e) (rest_rises l f)))
    (same s)

-- from any moment of the past to the present
pub rises_since : (f : Program) (g : Group) {w : World} → Lived f g w → readable_world w → (m : List Happening) → Until m w.past
    → (i : ℕ) → Rises (at_moment g m i) (at_server g w i)
rises_since f g =
    worlds_by f g (λ w. (m : List Happening) → Until m w.past → (i : ℕ) → Rises (at_moment g m i) (at_server g w i)) first later
  where
    now : (w : World) (m : List Happening) → w.past ≡ m → (i : ℕ) → Rises (at_moment g m i) (at_server g w i)
    now w m e i = subst (λ y. Rises (at_moment g y i) (at_server g w i)) e (same (at_server g w i))

    first : (m : List Happening) → Until m [] → (i : ℕ) → Rises (at_moment g m i) (at_server g new_world i)
    first m ([], q) i = now new_world m q i
    first m (h ∷ since, q) i = let z : ◌≡◌ {A = ℕ} 0 1 = cc in absurd (omega arith)

    later : (w : World) (i : ℕ) (e : Event) → Step f g w i e
        → ((m : List Happening) → Until m w.past → (v : ℕ) → Rises (at_moment g m v) (at_server g w v))
        → (m : List Happening) → Until m (happens f g w i e).past → (v : ℕ) → Rises (at_moment g m v) (at_server g (happens f g w i e) v)
    later w i e step before m ([], q) v = now (happens f g w i e) m q v
    later w i e step before m (h ∷ since, q) v =
        let u : Until m w.past = (since, cc) in
        each_server f g w i e (λ v y. Rises (at_moment g m v) y)
        (rises_trans (at_moment g m i) (at_server g w i) (after (limits g i) (at_server g w i) e) (before m u i)
        (event_rises (limits g i) (at_server g w i) e))
        (λ v ne. before m u v) v
