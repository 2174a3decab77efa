-- For those who call: an event that is readable and not turned away gives what the two functions ask for.
use Rattle.std.proofs.Common.{◌≡◌, ℕ, ◌+◌, ◌<◌, ◌≤◌, Bool, true, false, not, ◌&&◌, ◌||◌, eqb, ltb, leb, List, length, refl, arith}
use Rattle.std.proofs.lemmas.Bool.{and_parts, leb-false, ltb-true, leb-true, both_ways}
use Rattle.servers.specs.Store.{pick, Command}
use Rattle.servers.specs.Server.{
  Entry,
  append,
  Event,
  request,
  comes,
  Limits,
  State,
  last_of_all,
  in_a_row,
  clients_there,
  all_short_entries,
  terms_below,
  short,
  good_message,
  good_fields,
  turned_by,
  turned,
  event_number,
}
use Rattle.servers.specs.Promise.{eight, fine, all_fine, fine_message, readable}
use Rattle.texts.specs.Commands.{GoodCommand}
use Rattle.wire_read.specs.Means.{entries_of}
use Rattle.wire_read.specs.declared.parts.Entries.{Entries}
use Rattle.state.specs.Memory.{limits_of, room_in, servers_in, state_of}
use Rattle.state.specs.declared.words.Memory.{Memory}
use Rattle.memory.proofs.Good.{good_command, good_entries}
use Rattle.entries.specs.Steps.{CanTake}
use Rattle.entries.proofs.Logs.{count_is}

-- an event that isn't turned away has good fields
not_turned : (l : Limits) (s : State) (e : Event) → turned l s e ≡ 0 → (good_fields l e ≡ true) × (turned_by l s e ≡ 0)
not_turned l s e o =
    by (eqb (event_number e) 255 || l.events_can (event_number e)) (good_fields l e) (turned_by l s e) o
  where
    by : (a b : Bool) (n : ℕ) → pick (a && b) n 2 ≡ 0 → (b ≡ true) × (n ≡ 0)
    by true true n q = (refl, q)
    by true false n q = absurd (omega arith)
    by false b n q = absurd (omega arith)

pub request_given : (l : Limits) (s : State) (c k : ℕ) (x : Command) → turned l s (request c k x) ≡ 0
    → readable (request c k x) ≡ true → eqb s.kind 2 ≡ true
    → (c < l.clients) × (length s.log < l.room) × GoodCommand x
request_given l s c k x o p leads =
    let free = not_turned l s (request c k x) o in
    let fields = and_parts (ltb c l.clients) (short x) free.0 in
    let reads = and_parts (eight k) (fine x) (and_parts (eight c) (eight k && fine x) p).1 in (
      ltb-true c l.clients fields.0,
      leb-false l.room (length s.log) (by (eqb s.kind 2) (leb l.room (length s.log)) leads free.1),
      good_command x fields.1 reads.1,
    )
  where
    by : (a b : Bool) → a ≡ true → ◌≡◌ {A = ℕ} (pick (a && b) 4 0) 0 → b ≡ false
    by false b e q = absurd (both_ways false refl e)
    by true false e q = refl
    by true true e q = absurd (omega arith)

pub append_given : (m : Memory) (h t i u c : ℕ) (es : Entries)
    → turned (limits_of m) (state_of m) (comes h (append t i u (entries_of es) c)) ≡ 0
    → readable (comes h (append t i u (entries_of es) c)) ≡ true
    → (h < servers_in m) × (t ≤ last_of_all) × (c ≤ room_in m) × CanTake m i es
append_given m h t i u c entries o p =
    let l : Limits = limits_of m in
    let es : List Entry = entries_of entries in
    let free = not_turned l (state_of m) (comes h (append t i u es c)) o in
    let good = and_parts (ltb h l.servers && not (eqb h l.me)) (good_message l (append t i u es c)) free.0 in
    let from = and_parts (ltb h l.servers) (not (eqb h l.me)) good.0 in
    let before : Bool = leb t last_of_all && (leb i l.room && leb u last_of_all) in
    let there : Bool = clients_there l es && all_short_entries es in
    let halves = and_parts (before && there) (terms_below es && leb c l.room) good.1 in
    let fronts = and_parts before there halves.0 in
    let numbers = and_parts (leb t last_of_all) (leb i l.room && leb u last_of_all) fronts.0 in
    let texts = and_parts (clients_there l es) (all_short_entries es) fronts.1 in
    let backs = and_parts (terms_below es) (leb c l.room) halves.1 in
    let reads = and_parts (ltb h 256) (fine_message (append t i u es c)) p in
    let fines = and_parts (eight t && eight i) (eight u && (all_fine es && eight c)) reads.1 in
    let all = and_parts (all_fine es) (eight c) (and_parts (eight u) (all_fine es && eight c) fines.1).1 in
    let fit : Bool = leb (i + length es) l.room in
    let row = and_parts (in_a_row i es) fit (in_row (in_a_row i es && fit) free.1) in
    let room = leb-true (i + length es) l.room row.1 in
    let count = count_is entries in (
      ltb-true h l.servers from.0,
      leb-true t last_of_all numbers.0,
      leb-true c l.room backs.1,
      record {
        room = omega arith;
        row = row.0;
        good = good_entries l es texts.0 texts.1 backs.0 all.0;
      },
    )
  where
    in_row : (b : Bool) → ◌≡◌ {A = ℕ} (pick b 0 3) 0 → b ≡ true
    in_row true e = refl
    in_row false e = absurd (omega arith)
