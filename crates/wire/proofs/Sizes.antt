-- How many bytes at most, and that what is answered can be read back.
use Rattle.std.proofs.Common.{◌≡◌, ℕ, ◌+◌, ◌-◌, ◌*◌, ◌<◌, ◌≤◌, Bool, true, not, ◌&&◌, ◌||◌, eqb, ltb, leb, ◌⊎◌, List, [], ◌∷◌, ◌++◌, length, refl, inl, inr, mul-le-mul_right, suc-mul, arith}
use Rattle.std.specs.List.{AllByRecursion as All}
use Rattle.std.proofs.lemmas.List.{length-append}
use Rattle.std.proofs.lemmas.Bool.{and_parts, leb-true, lt-ltb}
use Rattle.servers.specs.Store.{Perhaps}
use Rattle.servers.specs.Server.{Message, ask_vote, vote, append, appended, Event, timeout, request, comes, restart, garbled}
use Rattle.servers.specs.Server.{Said, Letter, Answer, refused, not_leader, does, Limits}
use Rattle.servers.specs.Server.{short, in_a_row, clients_there, all_short_entries, terms_below, last_of_all, event_number, good_message}
use Rattle.servers.specs.Server.{good_fields, out_of_row, turned_by, answer, state}
use Rattle.servers.specs.Promise.{bytes_perhaps, GoodLimits, all_readable}
use Rattle.wire.specs.Write.{write_number, write_perhaps, write_message, write_event, write_said, write_saids, write_letter}
use Rattle.wire.specs.Write.{write_letters, write_answer}
use Rattle.wire.specs.Answers.{fine_perhaps, fine_saids, fine_letters, fine_answer}
use Rattle.wire.specs.Sizes.{letter_size, event_size, answer_size, EventFits, AnswerFits, AnswerIsFine}
use Rattle.servers.proofs.Tests.{pick_first}
use Rattle.wire.proofs.Writable.{both, fine_all}
use Rattle.wire.proofs.Lengths.{command_length, short_each, message_size}
use Rattle.wire.proofs.Stored.{Small}
use Rattle.wire.proofs.Steps.{held}
use Rattle.wire.proofs.Answering.{KeptSaid, KeptMessage, KeptLetter, KeptAnswer, kept_answer}

-- events
abbrev Late : ℕ → Type 0
Late n = (n ≡ 0) ⊎ (3 < n)

not_late : (n : ℕ) → 1 ≤ n → n ≤ 3 → Late n → ⊥
not_late n a b (inl q) = omega arith
not_late n a b (inr q) = omega arith

message_fits : (l : Limits) (m : Message) → good_message l m ≡ true → Late (out_of_row l m) → length (write_message m) ≤ 41 + 635 * l.room
message_fits l (ask_vote t i u) q r = let s = message_size (ask_vote t i u) tt in omega arith
message_fits l (vote t ok) q r = let s = message_size (vote t ok) tt in omega arith
message_fits l (append t i u es c) q r =
    let p = pick_first Late (in_a_row i es && leb (i + length es) l.room) 0 3 r (not_late 3 (omega arith) (omega arith)) in
    let n = leb-true (i + length es) l.room (and_parts (in_a_row i es) (leb (i + length es) l.room) p.0).1 in
    let b = and_parts (leb t last_of_all && (leb i l.room && leb u last_of_all)) (clients_there l es && all_short_entries es)
    (and_parts _ (terms_below es && leb c l.room) q).0 in
    let a = short_each es (and_parts (clients_there l es) (all_short_entries es) b.1).1 in
    let s = message_size (append t i u es c) a in omega arith
message_fits l (appended t i ok) q r = let s = message_size (appended t i ok) tt in omega arith

pub event_fits : EventFits
unfolding write_number
event_fits l s e room late =
    let p = pick_first Late ((eqb (event_number e) 255 || l.events_can (event_number e)) && good_fields l e) (turned_by l s e) 2 late
    (not_late 2 (omega arith) (omega arith)) in
    so e (and_parts _ _ p.0).1 p.1
  where
    so : (e : Event) → good_fields l e ≡ true → Late (turned_by l s e) → length (write_event e) ≤ event_size l
    so timeout q r = omega arith
    so (request c k x) q r = let n = command_length x (and_parts (ltb c l.clients) (short x) q).1 in omega arith
    so (comes h m) q r =
        let g = (and_parts (ltb h l.servers && not (eqb h l.me)) (good_message l m) q).1 in
        let n = message_fits l m g r in omega arith
    so restart q r = omega arith
    so (garbled n) q r = omega arith

-- answers
small_length : (e : Perhaps) → Small e → length (write_perhaps e) ≤ 265
unfolding write_number
small_length [] p = omega arith
small_length (t ∷ ts) p = let n = p.0.1 in omega arith

saids_length : (ss : List Said) → All KeptSaid ss → length (write_saids ss) ≤ 546 * length ss
unfolding write_saids write_number
saids_length [] a = omega arith
saids_length (s ∷ ss) a =
    let r = saids_length ss a.1 in
    let p = small_length s.reply.now a.0.1.0 in let q = small_length s.reply.old a.0.1.1 in
    let l = length-append (write_perhaps s.reply.now) (write_perhaps s.reply.old) in
    let m = length-append (write_said s) (write_saids ss) in omega arith

kept_length : (l : Limits) (m : Message) → KeptMessage l m → length (write_message m) ≤ 41 + 635 * l.room
kept_length l m k = let s = message_size m k.1 in let n = k.2 in omega arith

letters_length : (l : Limits) (xs : List Letter) → All (KeptLetter l) xs → length (write_letters xs) ≤ length xs * letter_size l
unfolding write_letters write_number
letters_length l [] a = omega arith
letters_length l (x ∷ xs) a =
    let r = letters_length l xs a.1 in let n = kept_length l x.message a.0.1 in
    let m = length-append (write_letter x) (write_letters xs) in let p = suc-mul (length xs) (letter_size l) in omega arith

kept_fits : (l : Limits) (a : Answer) → KeptAnswer l a → length (write_answer a) ≤ answer_size l
unfolding write_number
kept_fits l (refused j k) p = omega arith
kept_fits l not_leader p = omega arith
kept_fits l (does ss ls) p =
    let a = saids_length ss p.0.0 in let b = letters_length l ls p.1.0 in let c = p.0.1 in let d = p.1.1 in
    let n = length-append (write_saids ss) (write_number (length ls) ++ write_letters ls) in
    let m = mul-le-mul_right {m = length ls} {n = l.servers - 1} (letter_size l) (omega arith) in omega arith

pub answer_fits : AnswerFits
unfolding all_readable
answer_fits can l es e g f =
    let p = and_parts _ _ f in
    kept_fits l (answer l (state l es) e) (kept_answer can l (state l es) e g p.0 (held can l es g p.1))

fine_small : (e : Perhaps) → Small e → fine_perhaps e ≡ true
unfolding bytes_perhaps
fine_small [] p = refl
fine_small (t ∷ ts) p =
    let n = p.0.1 in
    rw p.1 (both (both p.0.0 refl) (both refl (lt-ltb (length t) 18446744073709551616 (omega arith))))

fine_each : (ss : List Said) → All KeptSaid ss → fine_saids ss ≡ true
unfolding fine_saids
fine_each [] a = refl
fine_each (s ∷ ss) a =
    both (both (both a.0.0.0 a.0.0.1) (both (fine_small s.reply.now a.0.1.0) (fine_small s.reply.old a.0.1.1)))
    (fine_each ss a.1)

fine_post : (l : Limits) (xs : List Letter) → l.room ≤ 65536 → All (KeptLetter l) xs → fine_letters xs ≡ true
unfolding fine_letters
fine_post l [] h a = refl
fine_post l (x ∷ xs) h a =
    let n = kept_length l x.message a.0.1 in let f = fine_all x.message a.0.1.0 in
    let e = lt-ltb (length (write_message x.message)) 18446744073709551616 (omega arith) in
    both (both (both a.0.0 e) (both f.0 f.1)) (fine_post l xs h a.1)

kept_fine : (can : ℕ → Bool) (l : Limits) (a : Answer) → GoodLimits can l → KeptAnswer l a → fine_answer a ≡ true
kept_fine can l (refused j k) g p = both p.0 p.1
kept_fine can l not_leader g p = refl
kept_fine can l (does ss ls) g p =
    let a = p.0.1 in let b = p.1.1 in let c = g.1 in let d = g.6 in
    both (both (lt-ltb (length ss) 18446744073709551616 (omega arith)) (fine_each ss p.0.0))
    (both (lt-ltb (length ls) 18446744073709551616 (omega arith)) (fine_post l ls d p.1.0))

pub answer_is_fine : AnswerIsFine
unfolding all_readable
answer_is_fine can l es e g f =
    let p = and_parts _ _ f in
    kept_fine can l (answer l (state l es) e) g (kept_answer can l (state l es) e g p.0 (held can l es g p.1))
