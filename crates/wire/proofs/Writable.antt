-- What the codecs ask of an event is what the statements do: readable, with lengths that fit.
use Rattle.std.proofs.Common.{◌≡◌, suc, Bool, true, ◌&&◌, leb, List, [], ◌∷◌, length, refl, arith}
use Rattle.std.proofs.lemmas.List.{nil_from_length}
use Rattle.std.proofs.lemmas.Bool.{and_parts, and_from, leb-true, false≢true}
use Rattle.servers.specs.Store.{Perhaps, Command, get, put, remove, swap, drop_if}
use Rattle.servers.specs.Server.{Entry, Message, ask_vote, vote, append, appended, Event, timeout, request, comes, restart, garbled}
use Rattle.servers.specs.Promise.{bytes_perhaps, fine, all_fine, fine_message}
use Rattle.wire.specs.Codec.{sized_perhaps, sized_command, sized_entries, sized_message, Writable}
use Rattle.wire.proofs.Numbers.{MaybeText}
use Rattle.wire.proofs.Commands.{GoodCommand, GoodEntries}
use Rattle.wire.proofs.Events.{GoodMessage, GoodEvent}

pub good_perhaps : (e : Perhaps) → bytes_perhaps e ≡ true → leb (length e) 1 ≡ true → sized_perhaps e ≡ true → MaybeText e
unfolding bytes_perhaps
good_perhaps [] b l s = tt
good_perhaps (t ∷ ts) b l s = (((and_parts _ _ b).0, s), nil_from_length ts (omega (arith, leb-true (suc (length ts)) 1 l)))

pub good_command : (x : Command) → fine x ≡ true → sized_command x ≡ true → GoodCommand x
good_command (get k) f s = (f, s)
good_command (put k v) f s = let p = and_parts _ _ f in let q = and_parts _ _ s in ((p.0, q.0), (p.1, q.1))
good_command (remove k) f s = (f, s)
good_command (swap k e v) f s =
    let p = and_parts _ _ f in let a = and_parts _ _ p.0 in let b = and_parts _ _ p.1 in
    let q = and_parts _ _ s in let c = and_parts _ _ q.1 in
    ((a.0, q.0), (good_perhaps e a.1 b.1 c.0, (b.0, c.1)))
good_command (drop_if k v) f s = let p = and_parts _ _ f in let q = and_parts _ _ s in ((p.0, q.0), (p.1, q.1))

good_entries : (es : List Entry) → all_fine es ≡ true → sized_entries es ≡ true → GoodEntries es
unfolding all_fine sized_entries
good_entries [] f s = tt
good_entries (e ∷ es) f s =
    let p = and_parts _ _ f in let l = and_parts _ _ p.0 in let r = and_parts _ _ p.1 in let a = and_parts _ _ l.0 in
    let b = and_parts _ _ l.1 in let c = and_parts _ _ r.0 in let q = and_parts _ _ s in
    ((a.0, (a.1, (b.0, (b.1, (c.0, good_command e.command c.1 q.0))))), good_entries es r.1 q.1)

pub good_message : (m : Message) → fine_message m ≡ true → sized_message m ≡ true → GoodMessage m
good_message (ask_vote t i u) f s = let p = and_parts _ _ f in let q = and_parts _ _ p.1 in (p.0, (q.0, q.1))
good_message (vote t ok) f s = (f, tt)
good_message (append t i u es c) f s =
    let p = and_parts _ _ f in let a = and_parts _ _ p.0 in let b = and_parts _ _ p.1 in let d = and_parts _ _ b.1 in
    let q = and_parts _ _ s in
    (a.0, (a.1, (b.0, (d.1, (good_entries es d.0 q.1, q.0)))))
good_message (appended t i ok) f s = let p = and_parts _ _ f in (p.0, (p.1, tt))

pub good_event : (e : Event) → Writable e → GoodEvent e
good_event timeout w = tt
good_event (request c k x) w = let p = and_parts _ _ w.0 in let q = and_parts _ _ p.1 in (p.0, (q.0, good_command x q.1 w.1))
good_event (comes h m) w = let p = and_parts _ _ w.0 in (p.0, good_message m p.1 w.1)
good_event restart w = tt
good_event (garbled n) w = false≢true w.1

pub both : {a b : Bool} → a ≡ true → b ≡ true → (a && b) ≡ true
both {a} {b} p q = and_from a b p q

fine_perhaps : (e : Perhaps) → MaybeText e → (bytes_perhaps e ≡ true) × (leb (length e) 1 ≡ true) × (sized_perhaps e ≡ true)
unfolding bytes_perhaps
fine_perhaps [] g = (refl, refl, refl)
fine_perhaps (t ∷ ts) g = (rw g.1 (both g.0.0 refl), rw g.1 refl, g.0.1)

fine_command : (x : Command) → GoodCommand x → (fine x ≡ true) × (sized_command x ≡ true)
fine_command (get k) g = g
fine_command (put k v) g = (both g.0.0 g.1.0, both g.0.1 g.1.1)
fine_command (remove k) g = g
fine_command (swap k e v) g =
    let p = fine_perhaps e g.1.0 in
    (both (both g.0.0 p.0) (both g.1.1.0 p.1), both g.0.1 (both p.2 g.1.1.1))
fine_command (drop_if k v) g = (both g.0.0 g.1.0, both g.0.1 g.1.1)

fine_entries : (es : List Entry) → GoodEntries es → (all_fine es ≡ true) × (sized_entries es ≡ true)
unfolding all_fine sized_entries
fine_entries [] g = (refl, refl)
fine_entries (e ∷ es) g =
    let h = g.0 in let c = fine_command e.command h.1.1.1.1.1 in let r = fine_entries es g.1 in (
      both (both (both h.0 h.1.0) (both h.1.1.0 h.1.1.1.0))
          (both (both h.1.1.1.1.0 c.0) r.0),
      both c.1 r.1,
    )

pub fine_all : (m : Message) → GoodMessage m → (fine_message m ≡ true) × (sized_message m ≡ true)
fine_all (ask_vote t i u) g = (both g.0 (both g.1.0 g.1.1), refl)
fine_all (vote t ok) g = (g.0, refl)
fine_all (append t i u es c) g =
    let r = fine_entries es g.1.1.1.1.0 in
    (both (both g.0 g.1.0) (both g.1.1.0 (both r.0 g.1.1.1.0)), both g.1.1.1.1.1 r.1)
fine_all (appended t i ok) g = (both g.0 g.1.0, refl)

pub writable : (e : Event) → GoodEvent e → Writable e
writable timeout g = (refl, refl)
writable (request c k x) g = let r = fine_command x g.1.1 in (both g.0 (both g.1.0 r.0), r.1)
writable (comes h m) g = let r = fine_all m g.1 in (both g.0 r.0, r.1)
writable restart g = (refl, refl)
writable (garbled n) g = absurd g
