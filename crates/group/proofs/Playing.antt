-- One happening after the other: a group goes on playing.
use Rattle.std.proofs.Common.{◌≡◌, ℕ, suc, ◌+◌, ◌-◌, ◌*◌, ◌<◌, ◌≤◌, true, List, [], ◌∷◌, ◌++◌, length, take, drop, Ok, Err, Result, sym, refl, ap, ◌∙◌, subst, mul-le-mul_right, suc-mul, arith}
use Rattle.std.proofs.lemmas.List.{append_assoc, drop_at, length-append, length-take, length-take-le, take_at}
use Rattle.std.proofs.lemmas.Bool.{and_from, lt-ltb}
use Rattle.std.specs.Result.{IsErrAnd}
use Rattle.servers.specs.Server.{Limits, Event, Answer, state}
use Rattle.servers.specs.World.{Group, World, limits, seen, memory, happens}
use Rattle.servers.specs.Promise.{bytes, eight, readable, all_readable, readable_world, GoodLimits, GoodGroup, Right}
use Rattle.wire.specs.Write.{write_number, write_answer}
use Rattle.wire.specs.Read.{read_event}
use Rattle.wire.specs.Answers.{fine_answer}
use Rattle.wire.proofs.Numbers.{length_bytes_of}
use Rattle.wire.specs.Sizes.{answer_size}
use Rattle.wire.proofs.Places.{read_is_readable}
use Rattle.wire.proofs.Sizes.{answer_is_fine}
use Rattle.wire_write.specs.Put.{Writes}
use Rattle.wire_write.specs.Answers.{answer_length}
use Rattle.wire_write.proofs.Answering.{length_answer}
use Rattle.wire_write.proofs.Putting.{take_put_all}
use Rattle.memory.specs.Program.{serves, server, says}
use Rattle.memory.proofs.Program.{right}
use Rattle.state.specs.Held.{limits_of, Holding}
use Rattle.state.proofs.Holding.{always_held}
use Rattle.group.specs.Journals.{Kept, Journals, Grows, write_came, world_in, events_of}
use Rattle.group.specs.Parts.{part, Parts, Steps, CanHappen, Alive}
use Rattle.group.specs.Playing.{group_of, Playing, TurnedOn, Played, Why, Outcome}
use Rattle.server.specs.Reached.{Reached}
use Rattle.group.specs.declared.happen.Group as groups
use Rattle.group.specs.declared.happen.Kept as kepts
use Rattle.group.specs.declared.happen.Denied.{Denied}
use Rattle.group.proofs.Journals.{journals_grow, grown_happens}
use Rattle.group.proofs.Parts.{parts_step, alive_on}
use Rattle.group.proofs.Explained.{alive_is_explained}

pub good_limits : (g : Group) (i : ℕ) → i < g.servers → GoodGroup serves g → GoodLimits serves (limits g i)
good_limits g i low q = (q.0, q.1, low, q.2, q.3, q.4, q.5, q.6)

-- what a world that is alive, and parts that hold it, say of one server
pub carried : (g : Group) (w : World) (i : ℕ) → Alive g w → all_readable (seen i w.past) ≡ true
unfolding readable_world
carried g w i a = a.carried i

pub held : (g : Group) (size : ℕ) (m : List ℕ) (w : World) (i : ℕ) → i < g.servers → Parts g size m w
    → part size i m ≡ memory server (limits g i) (seen i w.past)
unfolding Parts
held g size m w i low h = h i low

-- each server's part is a memory that it reached
abbrev pub reached :
    (p : groups.Group) (k : kepts.Kept) (m xs ys : List ℕ) (i : ℕ) → i < p.servers → Playing p k m xs ys
    → Reached (limits (group_of p) i) (part p.words i m)
reached p k m xs ys i low pl =
    let w : World = world_in k.happenings xs ys in
    record {
      events = seen i w.past;
      good = good_limits (group_of p) i low pl.good;
      readable = carried (group_of p) w i pl.alive;
      is = held (group_of p) p.words m w i low pl.parts;
    }

pub its_limits : (l : Limits) (m : List ℕ) → Reached l m → limits_of m ≡ l
its_limits l m x =
    (subst (λ (z : List ℕ). Holding l (state l x.events) z) (sym x.is) (always_held l x.events x.good x.readable)).limits

-- the journals are in the bytes that there are
pub ends : (n : ℕ) (xs zs : List ℕ) → n ≡ length zs → take n xs ≡ zs → n ≤ length xs
ends n xs zs e h = let l = length-take n xs in let q : length (take n xs) ≡ length zs = ap length h in omega arith

-- and no happening is without bytes
many : (ks : List Kept) → length ks ≤ length (events_of ks)
unfolding events_of
many [] = omega arith
many (k ∷ ks) =
    let ih = many ks in
    let l = length-append (write_came k.came.at k.came.bytes) (events_of ks) in
    omega arith

pub few : (n e a : ℕ) (xs ys : List ℕ) → Journals n e a xs ys → n ≤ e
few n e a xs ys j = let m = many j.kept in let c = j.count in let d = j.events_end in omega arith

-- how long the parts of the journals are
pub came_long : (i : ℕ) (bs : List ℕ) → length (write_came i bs) ≡ 9 + length bs
unfolding write_number
came_long i bs = let l = length-append (write_number (length bs)) bs in omega arith

number_long : (x : ℕ) → length (write_number x) ≡ 8
unfolding write_number
number_long x = length_bytes_of 8 x

-- how many of the words are before a server's part and in it
pub part_within : (i n words : ℕ) → i < n → i * words + words ≤ n * words
part_within i n words h =
    let p : suc i * words ≤ n * words = mul-le-mul_right words (omega arith) in let q = suc-mul i words in omega arith

more_readable : (e : Event) (es : List Event) → readable e ≡ true → all_readable es ≡ true → all_readable (e ∷ es) ≡ true
unfolding all_readable
more_readable e es p q = and_from (readable e) (all_readable es) p q

-- what a server that was reached says can be read back
fine_says : (l : Limits) (m : List ℕ) (e : Event) → Reached l m → readable e ≡ true → fine_answer (says serves m e) ≡ true
unfolding Right
fine_says l m e x h =
    let r = more_readable e x.events h x.readable in
    ap (λ (z : List ℕ). fine_answer (says serves z e)) x.is
    ∙ (ap fine_answer (right serves l x.events e x.good r) ∙ answer_is_fine serves l x.events e x.good r)

-- a server is ready for a step, and there is room for its answer
pub record Ready (p : groups.Group) (i at : ℕ) (m ys : List ℕ) : Type 0 where
  pub within : i * p.words + p.words ≤ length m
  pub reached : Reached (limits_of (part p.words i m)) (part p.words i m)
  pub room : at + answer_size (limits_of (part p.words i m)) ≤ length ys

pub ready : (p : groups.Group) (k : kepts.Kept) (m xs ys : List ℕ) (i : ℕ) → i < p.servers → k.answers + p.longest ≤ length ys
    → Playing p k m xs ys → Ready p i k.answers m ys
ready p k m xs ys i low room pl =
    let q : List ℕ = part p.words i m in
    let x = reached p k m xs ys i low pl in
    let l : limits_of q ≡ limits (group_of p) i = its_limits (limits (group_of p) i) q x in
    let s : answer_size (limits_of q) ≡ answer_size (limits (group_of p) 0) = ap (λ (z : Limits). answer_size z) l in
    let long = pl.long in
    let longest = pl.longest in
    let w = part_within i p.servers p.words low in
    record { within = omega arith; reached = subst (λ (z : Limits). Reached z q) (sym l) x; room = omega arith }

-- what is denied changes nothing
pub denied :
    (p : groups.Group) (k : kepts.Kept) (i : ℕ) (bs m xs ys : List ℕ) (why : Denied) (r : Result kepts.Kept Denied)
    → IsErrAnd r (λ e. e ≡ why) → Why p k i bs xs ys why → Outcome p k i bs m xs ys m xs ys r
denied p k i bs m xs ys why (Ok x) e h = absurd e
denied p k i bs m xs ys why (Err x) e h =
    (subst (λ (z : Denied). Why p k i bs xs ys z) (sym e) h, refl, refl, refl)

-- ONE HAPPENING: the event was written, the server stepped, and the counts are the new ones
pub played :
    (p : groups.Group) (k k' : kepts.Kept) (i to : ℕ) (bs m xs ys m' xs' ys' : List ℕ) → Playing p k m xs ys → i < p.servers
    → CanHappen (world_in k.happenings xs ys) i (read_event bs) → Writes k.events (write_came i bs) xs xs' to
    → TurnedOn p k i to bs m ys m' ys' k' → Played p k i (read_event bs) xs ys k' m' xs' ys'
played p k k' i to bs m xs ys m' xs' ys' pl low can put o =
    let t = o.turned in
    let eh = o.happenings in
    let ee = o.events in
    let ea = o.answers in
    let fit = t.event in
    let g : Group = group_of p in
    let n : ℕ = k.happenings in
    let w : World = world_in n xs ys in
    let e : Event = read_event bs in
    let a : Answer = says serves (part p.words i m) e in
    let x = reached p k m xs ys i low pl in
    let fine : readable e ≡ true = read_is_readable bs fit in
    let room = put.room in
    let next : to ≡ k.events + length (write_came i bs) = put.next in
    let grows : Grows k.events k.answers xs ys i bs a xs' ys' =
    record {
      fits = and_from (bytes bs) (eight (length bs)) fit.0 (lt-ltb (length bs) 18446744073709551616 fit.1);
      fine = fine_says (limits g i) (part p.words i m) e x fine;
      came =
          ap (take (k.events + length (write_came i bs))) put.bytes
          ∙ take_put_all k.events (write_came i bs) xs (omega arith);
      answered = t.answered;
    } in
    let journals = (journals_grow n k.events k.answers xs ys i bs a xs' ys' pl.journals grows).0 in
    let world : world_in k'.happenings xs' ys' ≡ happens server g w i e =
    ap (λ (z : ℕ). world_in z xs' ys') eh
    ∙ grown_happens g n k.events k.answers xs ys i bs a xs' ys' pl.journals grows
    (ap (λ (z : List ℕ). says serves z e) (held g p.words m w i low pl.parts)) in
    let steps : Steps g p.words i e m m' = record { called_there = t.there; others = λ j lower ne. t.others j ne } in
    let alive : Alive g (world_in k'.happenings xs' ys') =
    subst (λ (z : World). Alive g z) (sym world) (alive_on g w i e low fine can pl.alive) in
    let ends_at : k.answers + length (write_answer a) ≡ k'.answers =
    ap (λ (z : ℕ). k.answers + z) (sym (ap answer_length t.answer_is ∙ length_answer a)) ∙ sym ea in
    let long = pl.long in
    let same = t.long in
    record {
      world = world;
      playing =
          record {
            good = pl.good;
            longest = pl.longest;
            long = omega arith;
            journals =
                subst (λ (z : ℕ). Journals z k'.events k'.answers xs' ys') (sym eh)
                (subst (λ (z : ℕ). Journals (suc n) z k'.answers xs' ys') (sym (ee ∙ next))
                (subst (λ (z : ℕ). Journals (suc n) (k.events + length (write_came i bs)) z xs' ys') ends_at journals));
            parts =
                subst (λ (z : World). Parts g p.words m' z) (sym world)
                (parts_step g p.words i e m m' w low pl.parts steps);
            alive = alive;
          };
      explained = alive_is_explained g (world_in k'.happenings xs' ys') pl.good alive;
    }

-- the event's bytes where they were written
abbrev head : ℕ → List ℕ → List ℕ
head i bs = i ∷ write_number (length bs)

pub came_part :
    (e i to : ℕ) (bs xs xs' : List ℕ) → e ≤ length xs → Writes e (write_came i bs) xs xs' to → take (to - (e + 9)) (drop (e + 9) xs') ≡ bs
came_part e i to bs xs xs' low put =
    let rest : List ℕ = drop (e + length (write_came i bs)) xs in
    let f : List ℕ = take e xs ++ head i bs in
    let all : xs' ≡ f ++ (bs ++ rest) =
    put.bytes ∙ (ap (λ (z : List ℕ). take e xs ++ z) (append_assoc (head i bs) bs rest)
    ∙ sym (append_assoc (take e xs) (head i bs) (bs ++ rest))) in
    let l = length-append (take e xs) (head i bs) in
    let t = length-take-le e xs low in
    let n = number_long (length bs) in
    let long = came_long i bs in
    let next = put.next in
    ap (λ (z : List ℕ). take (to - (e + 9)) (drop (e + 9) z)) all
    ∙ (ap (take (to - (e + 9))) (drop_at f (bs ++ rest) (e + 9) (omega arith)) ∙ take_at bs rest (to - (e + 9)) (omega arith))
