-- ONE EVENT at one server keeps the invariant (`event_keeps`): the first step by the kind of event, then committing, sending and doing.
-- Events that are turned away change nothing. A new event or message is a new case here, and a file of its own.
use Rattle.std.proofs.Common.{◌≡◌, ℕ, suc, Bool, true, false, not, ◌&&◌, eqb, ltb, List, [], ◌++◌, refl, ◌∙◌, append_assoc, arith}
use Rattle.servers.specs.Store.{pick}
use Rattle.servers.specs.Server.{Limits, State, Letter, Message, ask_vote, vote, append, appended, Event, timeout, request, comes}
use Rattle.servers.specs.Server.{restart, garbled, not_leader, does, refused, last_index, last_term, to_others, with_send, with_request}
use Rattle.servers.specs.Server.{wants, heard, back, settles, sends_now, sent_now, tell_all, dues, after_all, first_step, first_letters}
use Rattle.servers.specs.Server.{stepped, doing, in_a_row, out_of_row, good_message, good_fields, turned, place, after, answer}
use Rattle.servers.specs.World.{Sent, In, from, letters}
use Rattle.std.proofs.lemmas.Bool.{and_parts, eqb-true, eqb-false, not-true}
use Rattle.std.proofs.lemmas.Bool.Decides.{nat_tests}
use Rattle.servers.proofs.Tests.{bool_by, pick_by}
use Rattle.safety.proofs.Letters.{from_append}
use Rattle.safety.proofs.Induction.{WasSent}
use Rattle.safety.proofs.Turn.{Before, Turn, change, change_unseen, say_nothing}
use Rattle.safety.proofs.Unseen.{finished_unseen, sent_unseen}
use Rattle.safety.proofs.Timeout.{timeout_keeps}
use Rattle.safety.proofs.VoteRequest.{vote_request_keeps}
use Rattle.safety.proofs.VoteReply.{vote_reply_keeps}
use Rattle.safety.proofs.AppendRequest.{append_request_keeps}
use Rattle.safety.proofs.AppendReply.{append_reply_keeps}
use Rattle.safety.proofs.ClientRequest.{client_request_keeps}
use Rattle.safety.proofs.Commit.{commit_keeps}
use Rattle.safety.proofs.Replication.{replication_keeps}
use Rattle.safety.proofs.Restart.{restart_keeps}

-- message m was sent by h to server me
abbrev SentTo : ℕ → List Sent → ℕ → Message → Type 0
SentTo me sent h m = In (record { by = h; letter = record { to = me; message = m } }) sent

-- what is known of an event that is not turned away: a message was sent, by another server, and its entries are in a row
abbrev Accepted : Limits → List Sent → Event → Type 0
Accepted l sent timeout = Unit {0}
Accepted l sent (request c j x) = Unit {0}
Accepted l sent (comes h m) = SentTo l.me sent h m × (h ≡ l.me → ⊥) × (out_of_row l m ≡ 0)
Accepted l sent restart = Unit {0}
Accepted l sent (garbled n) = Unit {0}

pick_zero : (b : Bool) → ◌≡◌ {A = ℕ} (pick b 0 3) 0 → b ≡ true
pick_zero true e = refl
pick_zero false e = absurd (omega arith)

pub pick_passed : (b : Bool) (n : ℕ) → pick b n 2 ≡ 0 → (b ≡ true) × (n ≡ 0)
pick_passed true n e = (refl, e)
pick_passed false n e = absurd (omega arith)

accepted : (l : Limits) (s : State) (sent : List Sent) (e : Event) → WasSent l.me sent e
    → turned l s e ≡ 0 → Accepted l sent e
accepted l s sent timeout c q = tt
accepted l s sent (request d j x) c q = tt
accepted l s sent (comes h m) c q =
    let p = pick_passed _ _ q in
    let fields = (and_parts _ (good_fields l (comes h m)) p.0).1 in
    let sender = (and_parts (ltb h l.servers && not (eqb h l.me)) (good_message l m) fields).0 in
    let other : not (eqb h l.me) ≡ true = (and_parts (ltb h l.servers) _ sender).1 in
    (c h m refl, (λ e. eqb-false h l.me (not-true _ other) e), p.1)
accepted l s sent restart c q = tt
accepted l s sent (garbled n) c q = tt

module _ (l : Limits) {was : Before} {s : State} {sent : List Sent} (a : Turn l.servers l.me was s sent) where
  abbrev Reaches : State → List Letter → Type 0
  Reaches s' ls = Turn l.servers l.me was s' (sent ++ from l.me ls)

  -- a message, by its kind
  message_keeps : (h : ℕ) (m : Message) → SentTo l.me sent h m → (h ≡ l.me → ⊥) → out_of_row l m ≡ 0
      → Reaches (heard l s h m) (back s h m)
  message_keeps h (ask_vote t i u) x other row = vote_request_keeps a h t i u other (a.letters _ x)
  message_keeps h (vote t ok) x other row = say_nothing (vote_reply_keeps l a h t ok (a.letters _ x))
  message_keeps h (append t i u es c) x other row =
      append_request_keeps a h t i u es c (a.letters _ x) (and_parts (in_a_row i es) _ (pick_zero _ row)).0
  message_keeps h (appended t i ok) x other row = say_nothing (append_reply_keeps a h t i ok x)

  -- the first step, by the kind of event
  first_keeps : (e : Event) → Accepted l sent e → Reaches (first_step l s e) (first_letters l s e)
  first_keeps timeout c =
      bool_by (λ b. Reaches (pick b (with_send true s) (wants l s))
      (pick b [] (to_others l.servers l.me (λ h. ask_vote (suc s.term) (last_index s.log) (last_term s.log)))))
      (eqb s.kind 2)
      (λ e. say_nothing (change a (with_send true s) a.mine))
      (λ e. timeout_keeps l a)
  first_keeps (request c j x) o =
      say_nothing (pick_by (λ y. Turn l.servers l.me was y sent) (eqb s.kind 2) (with_request l c j x s) s
      (λ e. client_request_keeps l a (grind (arith, nat_tests)) c j x)
      (λ e. a))
  first_keeps (comes h m) (x, other, row) = message_keeps h m x other row
  first_keeps restart c = say_nothing (restart_keeps l a)
  first_keeps (garbled n) c = say_nothing a

  -- and then it commits, sends and does what is committed
  rest_keeps : (f : State) (ls : List Letter) → Reaches f ls → Reaches (after_all l f) (ls ++ sends_now l (settles l f))
  rest_keeps f ls b =
      let m : State = settles l f in
      let sends = replication_keeps l (commit_keeps l b) in
      let done = change_unseen sends (after_all l f) (finished_unseen (sent_now m) ∙ sent_unseen m) in
      rw from_append (rw append_assoc at done)

  -- an event that is not turned away; a restart ends with its first step, and who doesn't lead answers a request with nothing
  stepped_keeps : (e : Event) → Accepted l sent e → Reaches (stepped l s e) (letters (doing l s e))
  unfolding letters
  stepped_keeps timeout c = rest_keeps (first_step l s timeout) (first_letters l s timeout) (first_keeps timeout c)
  stepped_keeps (request c j x) o =
      let f : State = first_step l s (request c j x) in
      let m : State = settles l f in
      let b = first_keeps (request c j x) o in
      bool_by (λ z. Reaches (after_all l f) (letters (pick (not z) not_leader
      (does (tell_all l (sent_now m) (dues (sent_now m))) (first_letters l s (request c j x) ++ sends_now l m))))) (eqb s.kind 2)
      (λ e. rest_keeps f (first_letters l s (request c j x)) b)
      (λ e. change_unseen (commit_keeps l b) (after_all l f) (finished_unseen (sent_now m) ∙ sent_unseen m))
  stepped_keeps (comes h m) c = rest_keeps (first_step l s (comes h m)) (first_letters l s (comes h m)) (first_keeps (comes h m) c)
  stepped_keeps restart c = first_keeps restart c
  stepped_keeps (garbled n) c = first_keeps (garbled n) c

  -- any event
  pub event_keeps : (e : Event) → WasSent l.me sent e
      → Turn l.servers l.me was (after l s e) (sent ++ from l.me (letters (answer l s e)))
  unfolding letters
  event_keeps e c =
      bool_by (λ b. Reaches (pick b (stepped l s e) s) (letters (pick b (doing l s e) (refused (turned l s e) (place e (turned l s e))))))
      (eqb (turned l s e) 0)
      (λ q. stepped_keeps e (accepted l s sent e c (eqb-true _ _ q)))
      (λ q. say_nothing a)
