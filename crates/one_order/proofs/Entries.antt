-- WHERE ENTRIES COME FROM: a server makes an entry of a request only; otherwise logs and letters pass on what they have. So what holds
-- of every entry in the logs and letters so far, and of every entry that a request can make, holds of every entry after an event.
-- P is any property of entries.
use Rattle.std.proofs.Common.{◌≡◌, ℕ, ◌-◌, not, ◌&&◌, ◌||◌, eqb, ltb, ◌⊎◌, List, [], ◌++◌, sym, subst, inl, inr}
use Rattle.servers.specs.Server.{Entry, Limits, State, Letter, Message, ask_vote, vote, append, appended}
use Rattle.servers.specs.Server.{Event, timeout, request, comes, restart, garbled, Answer, not_leader, does}
use Rattle.servers.specs.Server.{up_to, entry_at, term_is, next_for, back, to_server, first_step, first_letters, settles}
use Rattle.servers.specs.Server.{sends_now, sent_now, after_all, ends_there, is_request, stepped, doing, turned, after, answer}
use Rattle.servers.specs.World.{Sent, In, from, letters}
use Rattle.std.proofs.lemmas.Bool.{eqb-true}
use Rattle.servers.proofs.Tests.{pick_by}
use Rattle.safety.proofs.Letters.{in_either, from_append, all_one, all_others}
use Rattle.safety.proofs.Invariant.{View}
use Rattle.safety.proofs.Unseen.{finished_unseen}
use Rattle.one_order.proofs.Lists.{All, all_more, all_append, all_up_to, all_above}
use Rattle.one_order.proofs.Steps.{made_entry, first_by, settles_by}

-- every entry of a message
abbrev pub Carries : (Entry → Type 0) → Message → Type 0
Carries P (ask_vote t i u) = Unit {0}
Carries P (vote t ok) = Unit {0}
Carries P (append t i u es c) = All P es
Carries P (appended t m ok) = Unit {0}

pub carries_more : (P Q : Entry → Type 0) → ((e : Entry) → P e → Q e) → (m : Message) → Carries P m → Carries Q m
carries_more P Q f (ask_vote t i u) a = tt
carries_more P Q f (vote t ok) a = tt
carries_more P Q f (append t i u es c) a = all_more P Q f es a
carries_more P Q f (appended t m ok) a = tt

module _ (P : Entry → Type 0) (l : Limits) (s : State) where
  -- every entry that an event can bring
  abbrev pub Brings : Event → Type 0
  Brings timeout = Unit {0}
  Brings (request c k x) = P (made_entry l s c k x)
  Brings (comes h m) = Carries P m
  Brings restart = Unit {0}
  Brings (garbled n) = Unit {0}

  -- LOGS: what is in the log after an event was in the log, in the message, or in the request

  first_log : (e : Event) → All P s.log → Brings e → All P (first_step l s e).log
  first_log e a b =
      first_by (λ y. All P y.log) l s a e (λ c k x q. (subst Brings q b, a))
      (λ h t i u c es log q how. accepted i es log (subst Brings q b) how)
    where
      accepted : (i : ℕ) (es log : List Entry) → All P es → (log ≡ es) ⊎ (log ≡ es ++ up_to i s.log) → All P log
      accepted i es log b (inl p) = subst (All P) (sym p) b
      accepted i es log b (inr p) = subst (All P) (sym p) (all_append P es (up_to i s.log) b (all_up_to P i s.log a))

  all_log : (y : State) → All P y.log → All P (after_all l y).log
  all_log y a =
      subst (λ (v : View). All P v.log) (sym (finished_unseen (sent_now (settles l y))))
      (settles_by (λ c. All P c.log) l y a)

  pub after_log : (e : Event) → All P s.log → (turned l s e ≡ 0 → Brings e) → All P (after l s e).log
  after_log e a b =
      pick_by (λ (y : State). All P y.log) (eqb (turned l s e) 0) (stepped l s e) s
      (λ q. let f = first_log e a (b (eqb-true _ _ q)) in
      pick_by (λ (y : State). All P y.log) (ends_there e) (first_step l s e) (after_all l (first_step l s e)) (λ r. f)
      (λ r. all_log (first_step l s e) f))
      (λ q. a)

  -- LETTERS: only a leader's appends carry entries, and those are of its log

  abbrev Carry : List Letter → Type 0
  Carry ls = (x : Sent) → In x (from l.me ls) → Carries P x.letter.message

  carry_none : Carry []
  unfolding In from
  carry_none x h = elim h [ ]

  carry_back : (h : ℕ) (m : Message) → Carry (back s h m)
  carry_back h (ask_vote t j u) = all_one l.me _ (λ x. Carries P x.letter.message) tt
  carry_back h (vote t ok) = carry_none
  carry_back h (append t j u es c) =
      all_one l.me _ (λ x. Carries P x.letter.message)
      (pick_by (λ y. Carries P y) (ltb t s.term) _ _ (λ q. tt)
      (λ q. pick_by (λ y. Carries P y) (eqb j 0 || term_is (entry_at j s.log) u) _ _ (λ r. tt) (λ r. tt)))
  carry_back h (appended t j ok) = carry_none

  carry_first : (e : Event) → Carry (first_letters l s e)
  carry_first timeout =
      pick_by (λ y. Carry y) (eqb s.kind 2) [] _ (λ q. carry_none)
      (λ q. all_others l.me l.servers l.me _ (λ x. Carries P x.letter.message) (λ d. tt))
  carry_first (request c k x) = carry_none
  carry_first (comes h m) = carry_back h m
  carry_first restart = carry_none
  carry_first (garbled n) = carry_none

  carry_sends : (y : State) → All P y.log → Carry (sends_now l y)
  carry_sends y a =
      pick_by (λ z. Carry z) (eqb y.kind 2 && y.send) _ []
      (λ q. all_others l.me l.servers l.me (λ h. to_server y h) (λ x. Carries P x.letter.message)
      (λ d. all_above P (next_for y d - 1) y.log a))
      (λ q. carry_none)

  carry_doing : (e : Event) → All P s.log → Brings e → Carry (letters (doing l s e))
  unfolding letters
  carry_doing e a b =
      let m : State = settles l (first_step l s e) in
      let log : All P m.log =
      pick_by (λ (y : State). All P y.log) (eqb (first_step l s e).kind 2) _ _ (λ q. first_log e a b) (λ q. first_log e a b) in
      pick_by (λ (y : Answer). Carry (letters y)) (is_request e && not (eqb s.kind 2)) not_leader _ (λ q. carry_none)
      (λ q. pick_by (λ (y : Answer). Carry (letters y)) (ends_there e) (does [] []) _ (λ r. carry_none)
      (λ r x h. elim (in_either x (from l.me (first_letters l s e)) (from l.me (sends_now l m)) (rw from_append at h))
      [ inl y ↦ carry_first e x y | inr y ↦ carry_sends m log x y ]))

  pub carry_answer : (e : Event) → All P s.log → (turned l s e ≡ 0 → Brings e) → Carry (letters (answer l s e))
  unfolding letters
  carry_answer e a b =
      pick_by (λ (y : Answer). Carry (letters y)) (eqb (turned l s e) 0) (doing l s e) _
      (λ q. carry_doing e a (b (eqb-true _ _ q))) (λ q. carry_none)
