-- What comes of the checks: the event, with what it passed, or the refusal with its number and place. Assumes nothing: these
-- are definitions.
use Rattle.std.specs.Prelude.{◌≡◌, ℕ, ◌+◌, ◌<◌, ◌≤◌, Bool, true, ◌≢◌, List, length, Ok, Err, Result}
use Rattle.servers.specs.Store.{pick}
use Rattle.servers.specs.Server as server
use Rattle.servers.specs.Server.{place, short, in_a_row, last_of_all}
use Rattle.wire_read.specs.Means.{means, command_of, entries_of, message_of}
use Rattle.wire_read.specs.declared.parts.Event.{Event}
use Rattle.wire_read.specs.declared.parts.Event.TheVariants.{Timeout, Request, Comes, Restart, Garbled}
use Rattle.wire_read.specs.declared.parts.Message.{Message}
use Rattle.wire_read.specs.declared.parts.Message.TheVariants.{AskVote, Vote, Append, Appended}
use Rattle.checks.specs.Refusals.{by_fields, good_entries, in_range, in_row}
use Rattle.checks.specs.declared.refusal.Refusal.{Refusal}
use Rattle.checks.specs.declared.refusal.Refusal.TheVariants.{NoEvent, OutOfRange, OutOfRow, LogFull, LastTerm}

-- the number of each refusal, and its place: where bytes cease to be an event, and else 0
abbrev pub refusal_number : Refusal → ℕ
refusal_number (NoEvent n) = 1
refusal_number OutOfRange = 2
refusal_number OutOfRow = 3
refusal_number LogFull = 4
refusal_number LastTerm = 5

abbrev pub refusal_place : Refusal → ℕ
refusal_place (NoEvent n) = n
refusal_place OutOfRange = 0
refusal_place OutOfRow = 0
refusal_place LogFull = 0
refusal_place LastTerm = 0

abbrev pub outcome : {V : Type 0} → Result V Refusal → ℕ
outcome (Ok v) = 0
outcome (Err x) = refusal_number x

-- fields first, then the row and the room
abbrev pub ordered : {V : Type 0} → Bool → Bool → V → Result V Refusal
ordered fields row v = pick fields (pick row (Ok v) (Err OutOfRow)) (Err OutOfRange)

abbrev pub decided : server.Limits → Event → Result Event Refusal
decided l Timeout = ordered (in_range l server.timeout) true Timeout
decided l (Request c k x) = ordered (in_range l (means (Request c k x))) true (Request c k x)
decided l (Comes h m) = ordered (in_range l (means (Comes h m))) (in_row l (message_of m)) (Comes h m)
decided l Restart = ordered (in_range l server.restart) true Restart
decided l (Garbled n) = Err (NoEvent n)

-- WHAT AN EVENT HAS PASSED, in the form that those who do it need
pub record PassedAppend (l : server.Limits) (i n : ℕ) (es : List server.Entry) : Type 0 where
  pub many : length es ≡ n
  pub room : i + n ≤ l.room
  pub row : in_a_row i es ≡ true
  pub fields : good_entries l es ≡ true

abbrev pub PassedMessage : server.Limits → Message → Type 0
PassedMessage l (AskVote t i u) = (t ≤ last_of_all) × (i ≤ l.room) × (u ≤ last_of_all)
PassedMessage l (Vote t ok) = t ≤ last_of_all
PassedMessage l (Append t i u c es) =
    (t ≤ last_of_all) × (i ≤ l.room) × (u ≤ last_of_all) × (c ≤ l.room) × PassedAppend l i es.count (entries_of es)
PassedMessage l (Appended t i ok) = (t ≤ last_of_all) × (i ≤ l.room)

abbrev pub Passed : server.Limits → Event → Type 0
Passed l Timeout = Unit {0}
Passed l (Request c k x) = (c < l.clients) × (short (command_of x) ≡ true)
Passed l (Comes h m) = (h < l.servers) × (h ≢ l.me) × PassedMessage l m
Passed l Restart = l.events_can 3 ≡ true
Passed l (Garbled n) = ⊥

abbrev pub Handed : server.Limits → Event → Result Event Refusal → Type 0
Handed l e (Ok v) = (v ≡ e) × Passed l e
Handed l e (Err x) = refusal_place x ≡ place (means e) (refusal_number x)

-- THE CHECKS' PROMISE: exactly the refusal that needs no state, at its place, or the event itself, which passed
pub record Checked (l : server.Limits) (e : Event) (r : Result Event Refusal) : Type 0 where
  pub number : outcome r ≡ by_fields l (means e)
  pub handed : Handed l e r
