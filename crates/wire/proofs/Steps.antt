-- What a server keeps it keeps at every event that is not turned away.
use Rattle.std.proofs.Common.{◌≡◌, ℕ, suc, ◌+◌, ◌<◌, ◌≤◌, Bool, true, false, ◌&&◌, ◌||◌, eqb, ltb, leb, List, [], ◌∷◌, ◌++◌, length, refl, ap, ◌∙◌, subst, arith}
use Rattle.std.specs.List.{AllByRecursion as All}
use Rattle.std.proofs.lemmas.Bool.{and_parts, leb-true, eqb-true, lt-ltb, both_ways}
use Rattle.std.proofs.lemmas.Bool.Decides.{nat_tests}
use Rattle.servers.specs.Store.{pick, Command}
use Rattle.servers.specs.Server.{Entry, Message, ask_vote, vote, append, appended, Event, timeout, request, comes, restart, garbled}
use Rattle.servers.specs.Server.{Limits, State, nth, no_cached, last_index, last_of_all, has_new}
use Rattle.servers.specs.Server.{entry_at, up_to, term_is, in_a_row, short, clients_there, all_short_entries, terms_below, next_of}
use Rattle.servers.specs.Server.{next_for}
use Rattle.servers.specs.Server.{advanced, with_send}
use Rattle.servers.specs.Server.{after_append, appends, hears_appended, grants, asked, hears_vote, heard, wants, with_request}
use Rattle.servers.specs.Server.{settled_to, settles, sent_now, is_new, do_one, do_all, dues, finished, after_all, first_step, stepped}
use Rattle.servers.specs.Server.{event_number, good_message, good_fields, out_of_row, turned_by, turned, after, state}
use Rattle.servers.specs.Promise.{eight, fine, all_fine, fine_message, readable, all_readable, GoodLimits}
use Rattle.servers.proofs.Tests.{bool_by, pick_by, pick_first}
use Rattle.wire.proofs.Numbers.{Byte, Number}
use Rattle.wire.proofs.Lengths.{carried}
use Rattle.wire.proofs.Stored.{leaves, done_values, reply_small, short_command}
use Rattle.wire.proofs.Kept.{KeptEntry, KeptLog, Keeps, row_last, row_index, log_joined, log_afresh, all_many, all_nth, all_set_at}
use Rattle.wire.proofs.Kept.{all_due}

pub number_below : (n x : ℕ) → x ≤ n → n ≤ last_of_all → Number x
number_below n x h k = lt-ltb x 18446744073709551616 (omega arith)

-- entries that came
pub kept_each : (es : List Entry) → all_fine es ≡ true → all_short_entries es ≡ true → All KeptEntry es
unfolding all_fine all_short_entries
kept_each [] f q = tt
kept_each (e ∷ es) f q =
    let p = and_parts _ _ f in let l = and_parts _ _ p.0 in let r = and_parts _ _ p.1 in let a = and_parts _ _ l.0 in
    let b = and_parts _ _ l.1 in let c = and_parts _ _ r.0 in let s = and_parts _ _ q in
    (((a.0, (a.1, (b.0, (b.1, (c.0, short_command e.command c.1 s.0))))), s.0), kept_each es r.1 s.1)

keeps_advanced : (l : Limits) (s : State) (t : ℕ) → t ≤ last_of_all → Keeps l s → Keeps l (advanced t s)
keeps_advanced l s t h k = pick_by (Keeps l) (ltb s.term t) _ _ (λ q. (h, k.1, k.2, k.3, k.4, k.5)) (λ q. k)

keeps_asked : (l : Limits) (s : State) (h t i u : ℕ) → t ≤ last_of_all → Keeps l s → Keeps l (asked s h t i u)
keeps_asked l s h t i u low k =
    let a = keeps_advanced l s t low k in
    pick_by (Keeps l) (ltb t s.term) _ _ (λ q. k) (λ q. pick_by (Keeps l) (grants s h t i u) _ _ (λ p. a) (λ p. a))

keeps_vote : (l : Limits) (s : State) (h t : ℕ) (ok : Bool) → t ≤ last_of_all → Keeps l s → Keeps l (hears_vote l s h t ok)
keeps_vote l s h t ok low k =
    pick_by (Keeps l) (ltb s.term t) _ _ (λ q. keeps_advanced l s t low k)
    (λ q. pick_by (Keeps l) (ltb t s.term) _ _ (λ p. k)
    (λ p. pick_by (Keeps l) (eqb s.kind 1) _ _ (λ o. (k.0, k.1, k.2, all_many _ l.servers [] tt, k.4, k.5)) (λ o. k)))

keeps_entries :
    (l : Limits) (s : State) (h t c : ℕ) (es log : List Entry) → t ≤ last_of_all → c ≤ l.room → Keeps l s → KeptLog l log
    → Keeps l (after_append s h t es c log)
keeps_entries l s h t c es log low far k g =
    let a = keeps_advanced l s t low k in let z = k.2 in
    pick_by (Keeps l) (has_new s es) _ _ (λ q. (a.0, g, grind (arith, nat_tests), a.3, a.4, a.5)) (λ q. a)

keeps_appends :
    (l : Limits) (s : State) (h t i u c : ℕ) (es : List Entry) → t ≤ last_of_all → c ≤ l.room → All KeptEntry es → in_a_row i es ≡ true
    → i + length es ≤ l.room → Keeps l s → Keeps l (appends s h t i u es c)
keeps_appends l s h t i u c es low far a row room k =
    pick_by (Keeps l) (ltb t s.term) _ _ (λ q. k)
    (λ q. pick_by (Keeps l) (eqb i 0) _ _
    (λ p. keeps_entries l s h t c es es low far k
    (log_afresh l es a (subst (λ n. in_a_row n es ≡ true) (eqb-true i 0 p) row) (omega arith)))
    (λ p. pick_by (Keeps l) (term_is (entry_at i s.log) u) _ _
    (λ o. keeps_entries l s h t c es (es ++ up_to i s.log) low far k (log_joined l i u es s.log k.1 a row room o)) (λ o. k)))

pub next_low : (l : Limits) (s : State) (h : ℕ) → Keeps l s → next_for s h ≤ suc l.room
next_low l s h k = so (nth [] s.nexts h) (all_nth (All (λ n. n ≤ suc l.room)) [] s.nexts h tt k.3)
  where
    so : (ns : List ℕ) → All (λ n. n ≤ suc l.room) ns → next_of ns (last_index s.log) ≤ suc l.room
    so [] a = let e = row_last s.log k.1.0 in let h = k.1.1 in omega arith
    so (n ∷ ns) a = a.0

keeps_appended :
    (l : Limits) (s : State) (h t i : ℕ) (ok : Bool) → t ≤ last_of_all → i ≤ l.room → Keeps l s → Keeps l (hears_appended s h t i ok)
keeps_appended l s h t i ok low far k =
    let n = next_low l s h k in
    pick_by (Keeps l) (eqb s.term t) _ _
    (λ q. pick_by (Keeps l) ok _ _
    (λ p. (k.0, k.1, k.2, all_set_at _ s.nexts h _ (grind (arith, nat_tests), tt) k.3, k.4, k.5))
    (λ p. (k.0, k.1, k.2, all_set_at _ s.nexts h _ (omega arith, tt) k.3, k.4, k.5)))
    (λ q. keeps_advanced l s t low k)

pub kept_carried : (l : Limits) (m : Message) → fine_message m ≡ true → good_message l m ≡ true → All KeptEntry (carried m)
kept_carried l (ask_vote t i u) f q = tt
kept_carried l (vote t ok) f q = tt
kept_carried l (append t i u es c) f q =
    let p = and_parts (eight t && eight i) (eight u && (all_fine es && eight c)) f in
    let r = and_parts (eight u) (all_fine es && eight c) p.1 in
    let b = and_parts (leb t last_of_all && (leb i l.room && leb u last_of_all)) (clients_there l es && all_short_entries es)
    (and_parts _ (terms_below es && leb c l.room) q).0 in
    kept_each es (and_parts (all_fine es) (eight c) r.1).0 (and_parts (clients_there l es) (all_short_entries es) b.1).1
kept_carried l (appended t i ok) f q = tt

keeps_heard :
    (l : Limits) (s : State) (h : ℕ) (m : Message) → fine_message m ≡ true → good_message l m ≡ true → out_of_row l m ≡ 0 → Keeps l s
    → Keeps l (heard l s h m)
keeps_heard l s h (ask_vote t i u) f q o k = keeps_asked l s h t i u (leb-true t last_of_all (and_parts _ _ q).0) k
keeps_heard l s h (vote t ok) f q o k = keeps_vote l s h t ok (leb-true t last_of_all q) k
keeps_heard l s h (append t i u es c) f q o k =
    let r = and_parts _ _ (pick_first (λ (n : ℕ). n ≡ 0) (in_a_row i es && leb (i + length es) l.room) 0 3 o (λ z. omega arith)).0 in
    let e = and_parts _ _ q in let b = and_parts _ _ e.0 in let d = and_parts _ _ e.1 in
    keeps_appends l s h t i u c es (leb-true t last_of_all (and_parts _ _ b.0).0) (leb-true c l.room d.1)
    (kept_carried l (append t i u es c) f q) r.0
    (leb-true (i + length es) l.room r.1) k
keeps_heard l s h (appended t i ok) f q o k =
    let p = and_parts _ _ q in keeps_appended l s h t i ok (leb-true t last_of_all p.0) (leb-true i l.room p.1) k

-- what is asked of limits and events: an event that isn't turned away
abbrev pub Passing : (ℕ → Bool) → Limits → State → Event → Type 0
Passing can l s e = GoodLimits can l × (readable e ≡ true) × (good_fields l e ≡ true) × (turned_by l s e ≡ 0)

pub passes :
    (can : ℕ → Bool) (l : Limits) (s : State) (e : Event) → GoodLimits can l → readable e ≡ true → turned l s e ≡ 0 → Passing can l s e
passes can l s e g f t =
    let can_be : Bool = (eqb (event_number e) 255 || l.events_can (event_number e)) && good_fields l e in
    let p = pick_first (λ (n : ℕ). n ≡ 0) can_be (turned_by l s e) 2 t (λ z. omega arith) in
    (g, f, (and_parts _ _ p.0).1, p.1)

kept_request :
    (can : ℕ → Bool) (l : Limits) (s : State) (c i : ℕ) (x : Command) → Passing can l s (request c i x)
    → length s.log < l.room → Keeps l s → Keeps l (with_request l c i x s)
kept_request can l s c i x (g, f, q, o) h k =
    let n = row_last s.log k.1.0 in let a = g.1 in let b = g.2 in let z = g.6 in
    let at : Byte l.me = lt-ltb l.me 256 (omega arith) in
    let index : Number (suc (last_index s.log)) = number_below 65536 _ (omega arith) (omega arith) in
    let term : Number s.term = number_below last_of_all _ k.0 (omega arith) in
    let long : length (with_request l c i x s).log ≤ l.room = omega arith in
    let p = and_parts (eight c) (eight i && fine x) f in let r = and_parts (eight i) (fine x) p.1 in
    let y = (and_parts (ltb c l.clients) (short x) q).1 in
    let good = short_command x r.1 y in
    (k.0, ((ap suc n, k.1.0), long, (((at, (p.0, (r.0, (index, (term, good))))), y), k.1.2)), k.2, k.3, k.4, k.5)

pub keeps_first :
    (can : ℕ → Bool) (l : Limits) (s : State) (e : Event) → Passing can l s e → Keeps l s → Keeps l (first_step l s e)
keeps_first can l s timeout (g, f, q, t) k =
    bool_by (λ b. ◌≡◌ {A = ℕ} (pick (b || ltb s.term last_of_all) 0 5) 0 → Keeps l (pick b (with_send true s) (wants l s)))
    (eqb s.kind 2) (λ b o. k) (λ b o. (grind (arith, nat_tests), k.1, k.2, k.3, k.4, k.5)) t
keeps_first can l s (request c i x) (g, f, q, t) k =
    bool_by (λ b. ◌≡◌ {A = ℕ} (pick (b && leb l.room (length s.log)) 4 0) 0 → Keeps l (pick b (with_request l c i x s) s))
    (eqb s.kind 2) (λ b o. kept_request can l s c i x (g, f, q, t) (grind (arith, nat_tests)) k) (λ b o. k) t
keeps_first can l s (comes h m) (g, f, q, t) k = keeps_heard l s h m (and_parts _ _ f).1 (and_parts _ _ q).1 t k
keeps_first can l s restart (g, f, q, t) k = (k.0, k.1, k.2, all_many _ l.servers [] tt, k.4, k.5)
keeps_first can l s (garbled n) (g, f, q, t) k = k

settled_low : (l : Limits) (s : State) (n : ℕ) (es : List Entry) → s.commit ≤ n → All (λ e. e.index ≤ n) es → settled_to l s es ≤ n
unfolding settled_to
settled_low l s n [] h a = h
settled_low l s n (e ∷ es) h a = pick_by (λ i. i ≤ n) _ _ _ (λ q. a.0) (λ q. settled_low l s n es h a.1)

pub keeps_settles : (l : Limits) (s : State) → Keeps l s → Keeps l (settles l s)
keeps_settles l s k =
    let c = settled_low l s l.room s.log k.2 (row_index l.room s.log k.1.0 k.1.1) in
    pick_by (Keeps l) (eqb s.kind 2) _ _ (λ q. (k.0, k.1, c, k.3, k.4, k.5)) (λ q. k)

pub keeps_sent : (l : Limits) (s : State) → Keeps l s → Keeps l (sent_now s)
keeps_sent l s k = pick_by (Keeps l) (eqb s.kind 2) _ _ (λ q. k) (λ q. k)

pub keeps_one : (l : Limits) (s : State) (e : Entry) → KeptEntry e → Keeps l s → Keeps l (do_one s e)
keeps_one l s e p k =
    let v = leaves e.command p.0.1.1.1.1.1 p.1 in
    let d = done_values e.command s.store v k.4 in let r = reply_small e.command s.store v k.4 in
    pick_by (Keeps l) (is_new s e) _ _ (λ q. (k.0, k.1, k.2, k.3, d, all_set_at _ s.cache e.client _ r k.5)) (λ q. k)

keeps_all : (l : Limits) (s : State) (es : List Entry) → All KeptEntry es → Keeps l s → Keeps l (do_all s es)
unfolding do_all
keeps_all l s [] a k = k
keeps_all l s (e ∷ es) a k = keeps_all l (do_one s e) es a.1 (keeps_one l s e a.0 k)

keeps_finished : (l : Limits) (s : State) → Keeps l s → Keeps l (finished s)
keeps_finished l s k = keeps_all l s (dues s) (all_due KeptEntry s.applied s.commit s.log k.1.2) k

-- between events there is nothing to send
all_send : (s : State) (es : List Entry) → (do_all s es).send ≡ s.send
unfolding do_all
all_send s [] = refl
all_send s (e ∷ es) = all_send (do_one s e) es ∙ pick_by (λ (y : State). y.send ≡ s.send) (is_new s e) _ _ (λ q. refl) (λ q. refl)

-- nothing to send, but for one that leads, which sends it now
abbrev Calm : State → Type 0
Calm s = eqb s.kind 2 ≡ false → s.send ≡ false

pub heard_send : (l : Limits) (s : State) (h : ℕ) (m : Message) → (heard l s h m).send ≡ s.send
heard_send l s h (ask_vote t i u) = grind (arith, nat_tests)
heard_send l s h (vote t ok) = grind (arith, nat_tests)
heard_send l s h (append t i u es c) = grind (arith, nat_tests)
heard_send l s h (appended t i ok) = grind (arith, nat_tests)

calm_first : (l : Limits) (s : State) (e : Event) → s.send ≡ false → Calm (first_step l s e)
calm_first l s timeout z =
    bool_by (λ b. eqb s.kind 2 ≡ b → Calm (pick b (with_send true s) (wants l s))) (eqb s.kind 2)
    (λ b o n. absurd (both_ways _ n o)) (λ b o n. z) refl
calm_first l s (request c i x) z =
    bool_by (λ b. eqb s.kind 2 ≡ b → Calm (pick b (with_request l c i x s) s)) (eqb s.kind 2)
    (λ b o n. absurd (both_ways _ n o)) (λ b o n. z) refl
calm_first l s (comes h m) z = λ n. heard_send l s h m ∙ z
calm_first l s restart z = λ n. refl
calm_first l s (garbled k) z = λ n. z

quiet_all : (l : Limits) (s : State) → Calm s → (after_all l s).send ≡ false
quiet_all l s c =
    all_send (sent_now (settles l s)) (dues (sent_now (settles l s)))
    ∙ pick_by (λ (y : State). y.send ≡ false) (eqb (settles l s).kind 2) _ _ (λ q. refl)
    (λ q. pick_by Calm (eqb s.kind 2) _ _ (λ p. c) (λ p. c) q)

-- what is kept between events
abbrev pub Held : Limits → State → Type 0
Held l s = Keeps l s × (s.send ≡ false)

held_after :
    (can : ℕ → Bool) (l : Limits) (s : State) (e : Event) → GoodLimits can l → readable e ≡ true → Held l s → Held l (after l s e)
held_after can l s e g f h =
    pick_by (Held l) (eqb (turned l s e) 0) _ _
    (λ t. so e (keeps_first can l s e (passes can l s e g f (eqb-true (turned l s e) 0 t)) h.0) (calm_first l s e h.1)) (λ t. h)
  where
    on : (s : State) → Keeps l s → Calm s → Held l (after_all l s)
    on s k c = (keeps_finished l (sent_now (settles l s)) (keeps_sent l (settles l s) (keeps_settles l s k)), quiet_all l s c)

    so : (e : Event) → Keeps l (first_step l s e) → Calm (first_step l s e) → Held l (stepped l s e)
    so timeout k c = on (first_step l s timeout) k c
    so (request d i x) k c = on (first_step l s (request d i x)) k c
    so (comes j m) k c = on (first_step l s (comes j m)) k c
    so restart k c = (k, refl)
    so (garbled n) k c = (k, h.1)

pub held : (can : ℕ → Bool) (l : Limits) (es : List Event) → GoodLimits can l → all_readable es ≡ true → Held l (state l es)
unfolding state all_readable
held can l [] g f = (
  (
    omega arith,
    (tt, omega arith, tt),
    omega arith,
    all_many _ l.servers [] tt,
    tt,
    all_many _ l.clients no_cached (tt, tt),
  ),
  refl,
)
held can l (e ∷ es) g f = let p = and_parts _ _ f in held_after can l (state l es) e g p.0 (held can l es g p.1)
