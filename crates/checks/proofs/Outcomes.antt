-- From what was decided to what is promised: the refusal's number and place, and what was passed.
use Rattle.std.proofs.Common.{◌≡◌, ℕ, ◌+◌, Bool, true, false, ◌&&◌, leb, List, length, refl, ap, ◌∙◌, arith}
use mathlib.Core.Bool.{and_comm}
use Rattle.std.proofs.lemmas.Bool.{and_parts, and_from, eqb-false, ltb-true, leb-true, not-true}
use Rattle.servers.specs.Store.{pick}
use Rattle.servers.specs.Server as server
use Rattle.servers.specs.Server.{place, good_message, last_of_all, clients_there, all_short_entries, terms_below, out_of_row}
use Rattle.servers.specs.Opened.{limits_of}
use Rattle.servers.specs.declared.limits.Limits.{Limits}
use Rattle.wire_read.specs.Means.{means, message_of, entries_of}
use Rattle.wire_read.specs.declared.parts.Entries.{Entries}
use Rattle.wire_read.specs.declared.parts.Event.{Event}
use Rattle.wire_read.specs.declared.parts.Event.TheVariants.{Timeout, Request, Comes, Restart, Garbled}
use Rattle.wire_read.specs.declared.parts.Message.{Message}
use Rattle.wire_read.specs.declared.parts.Message.TheVariants.{AskVote, Vote, Append, Appended}
use Rattle.checks.specs.Outcome.{ordered, outcome, decided, PassedMessage, Passed, Handed, Checked}
use Rattle.checks.specs.Refusals.{can_do, in_range, in_row}
use Rattle.checks.specs.Steps.{append_checked, message_checked}
use Rattle.checks.proofs.Entries.{interchange, entries_long}

-- the fields of an append as the code takes them, its own numbers before its entries, and how many entries there are
pub append_means :
    (l : Limits) (t i u c : ℕ) (es : Entries) →
    append_checked l t i u c es ≡ message_checked l (Append t i u c es)
append_means l t i u c es =
    let n : Bool = leb t last_of_all && (leb i l.room && leb u last_of_all) in
    let d : Bool = leb c l.room in
    let xs : List server.Entry = entries_of es in
    let k : Bool = clients_there (limits_of can_do l) xs && all_short_entries xs in
    let m : ((n && d) && (k && terms_below xs)) ≡ ((n && k) && (terms_below xs && d)) =
    interchange n d k (terms_below xs) ∙ ap (λ z. (n && k) && z) (and_comm d (terms_below xs)) in
    rw (m, entries_long es) refl

-- what a message and an event have passed whose fields are in their ranges, and whose entries are in a row
message_passed :
    (l : server.Limits) (m : Message) → good_message l (message_of m) ≡ true →
    in_row l (message_of m) ≡ true → PassedMessage l m
message_passed l (AskVote t i u) p w =
    let a = and_parts _ _ p in
    let b = and_parts _ _ a.1 in
    (leb-true t last_of_all a.0, leb-true i l.room b.0, leb-true u last_of_all b.1)
message_passed l (Vote t ok) p w = leb-true t last_of_all p
message_passed l (Append t i u c es) p w =
    let a = and_parts _ _ p in
    let f = and_parts _ _ a.0 in
    let n = and_parts _ _ f.0 in
    let j = and_parts _ _ n.1 in
    let k = and_parts _ _ a.1 in
    let r = and_parts _ _ w in
    let z = entries_long es in
    let y = leb-true (i + length (entries_of es)) l.room r.1 in (
      leb-true t last_of_all n.0,
      leb-true i l.room j.0,
      leb-true u last_of_all j.1,
      leb-true c l.room k.1,
      record { many = z; room = omega arith; row = r.0; fields = and_from _ _ f.1 k.0 },
    )
message_passed l (Appended t i ok) p w = let a = and_parts _ _ p in (leb-true t last_of_all a.0, leb-true i l.room a.1)

-- fields, then the row: the number of what was decided
number_of : {V : Type 0} (f w : Bool) (v : V) → outcome (ordered f w v) ≡ pick f (pick w 0 3) 2
number_of true true v = refl
number_of true false v = refl
number_of false w v = refl

row_number : (l : server.Limits) (m : server.Message) → pick (in_row l m) 0 3 ≡ out_of_row l m
row_number l (server.ask_vote t i u) = refl
row_number l (server.vote t ok) = refl
row_number l (server.append t i u es c) = refl
row_number l (server.appended t i ok) = refl

handed :
    (l : server.Limits) (e : Event) (f w : Bool) → ((n : ℕ) → 0 ≡ place (means e) n) → (f ≡ true → w ≡ true →
    Passed l e) → Handed l e (ordered f w e)
handed l e true true z p = (refl, p refl refl)
handed l e true false z p = z 3
handed l e false w z p = z 2

pub decided_is : (l : server.Limits) (e : Event) → Checked l e (decided l e)
decided_is l Timeout =
    record {
      number = number_of (in_range l server.timeout) true Timeout;
      handed = handed l Timeout (in_range l server.timeout) true (λ n. refl) (λ f w. tt);
    }
decided_is l (Request c k x) =
    record {
      number = number_of (in_range l (means (Request c k x))) true (Request c k x);
      handed = handed l (Request c k x) (in_range l (means (Request c k x))) true (λ n. refl) (λ f w.
          let a = and_parts _ _ (and_parts _ _ f).1 in
          (ltb-true c l.clients a.0, a.1));
    }
decided_is l (Comes s m) =
    let f = in_range l (means (Comes s m)) in
    record {
      number = number_of f (in_row l (message_of m)) (Comes s m) ∙ ap (λ z. pick f z 2) (row_number l (message_of m));
      handed = handed l (Comes s m) f (in_row l (message_of m)) (λ n. refl) (λ f w.
          let a = and_parts _ _ (and_parts _ _ f).1 in
          let b = and_parts _ _ a.0 in
          (ltb-true s l.servers b.0, eqb-false s l.me (not-true _ b.1), message_passed l m a.1 w));
    }
decided_is l Restart =
    record {
      number = number_of (in_range l server.restart) true Restart;
      handed = handed l Restart (in_range l server.restart) true (λ n. refl) (λ f w. (and_parts _ _ f).0);
    }
decided_is l (Garbled n) = record { number = refl; handed = refl }
