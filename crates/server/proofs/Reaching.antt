-- What a memory that was reached is like, and that a step reaches the next.
use Rattle.std.proofs.Common.{◌≡◌, ℕ, ◌≤◌, true, List, ◌∷◌, length, sym, refl, ap, ◌∙◌, subst, arith}
use Rattle.std.proofs.lemmas.Bool.{and_from}
use Rattle.servers.specs.Server.{Event, Limits, State, state, answer}
use Rattle.servers.specs.World.{memory}
use Rattle.servers.specs.Promise.{all_readable, readable}
use Rattle.wire.specs.Answers.{fine_answer}
use Rattle.wire.specs.Read.{read_event}
use Rattle.wire.specs.Sizes.{answer_size}
use Rattle.wire.specs.Write.{write_answer}
use Rattle.wire.proofs.Sizes.{answer_fits, answer_is_fine}
use Rattle.wire_write.specs.declared.answer.Answer.{Answer}
use Rattle.memory.specs.Program.{serves, server, called}
use Rattle.state.specs.Held.{Held, Holding, limits_of, state_of}
use Rattle.state.specs.declared.words.Memory.{Memory}
use Rattle.state.proofs.Holding.{always_held}
use Rattle.state.proofs.Laws.{called_from}
use Rattle.server.specs.Reached.{Reached}
use Rattle.server.specs.Answered.{Answered, RoomFor, Stepped}
use Rattle.server.proofs.Written.{means_itself}

pub holding : (l : Limits) (m : List ℕ) (x : Reached l m) → Holding l (state l x.events) m
holding l m x =
    subst (λ (z : List ℕ). Holding l (state l x.events) z) (sym x.is) (always_held l x.events x.good x.readable)

pub reached_held : (l : Limits) (m : List ℕ) → Reached l m → Held m
reached_held l m x = (holding l m x).held

pub reached_limits : (l : Limits) (m : List ℕ) → Reached l m → limits_of m ≡ l
reached_limits l m x = (holding l m x).limits

pub reached_self : (l : Limits) (m : List ℕ) → Reached l m → Reached (limits_of m) m
reached_self l m x = subst (λ (z : Limits). Reached z m) (sym (reached_limits l m x)) x

more_readable : (e : Event) (es : List Event) → readable e ≡ true → all_readable es ≡ true → all_readable (e ∷ es) ≡ true
unfolding all_readable
more_readable e es p q = and_from (readable e) (all_readable es) p q

-- an answer has room where there is answer_size of it
pub reached_room : (m : Memory) (e : Event) (n : ℕ) → Reached (limits_of m.words.now) m.words.now → readable e ≡ true → answer_size (limits_of m.words.now) ≤ n
    → RoomFor m e n
reached_room m e n x p h =
    let l : Limits = limits_of m.words.now in
    let es : List Event = x.events in
    let f = answer_fits serves l es e x.good (more_readable e es p x.readable) in
    let s = ap (λ (z : State). length (write_answer (answer l z e))) (holding l m.words.now x).state in
    record { answer = omega arith; told = omega arith }

fine_reached : (m : List ℕ) (e : Event) → Reached (limits_of m) m → readable e ≡ true → fine_answer (answer (limits_of m) (state_of m) e) ≡ true
fine_reached m e x p =
    let l : Limits = limits_of m in
    let es : List Event = x.events in
    ap (λ (z : State). fine_answer (answer l z e)) (holding l m x).state
    ∙ answer_is_fine serves l es e x.good (more_readable e es p x.readable)

memory_more : (l : Limits) (e : Event) (es : List Event) → called serves (memory server l es) e ≡ memory server l (e ∷ es)
unfolding memory
memory_more l e es = refl

pub reached_on : (l : Limits) (m m' : List ℕ) (e : Event) → Reached l m → readable e ≡ true → m' ≡ called serves m e → Reached l m'
reached_on l m m' e x p q =
    record {
      events = e ∷ x.events;
      good = x.good;
      readable = more_readable e x.events p x.readable;
      is = q ∙ (ap (λ (z : List ℕ). called serves z e) x.is ∙ memory_more l e x.events);
    }

pub stepped : (m : Memory) (bs xs : List ℕ) (m' : Memory) (ys : List ℕ) (r : Answer) → Reached (limits_of m.words.now) m.words.now
    → readable (read_event bs) ≡ true → Answered m xs m' ys (read_event bs) r → Stepped m.words.now bs xs m'.words.now ys r
stepped m bs xs m' ys r x p a =
    let ws : List ℕ = m.words.now in
    record {
      memory = called_from m m' (read_event bs) a.turns;
      answer_is = a.answer_is;
      bytes = a.bytes;
      means = means_itself (answer (limits_of ws) (state_of ws) (read_event bs)) r xs ys (fine_reached ws (read_event bs) x p) a.bytes
          a.answer_is;
    }

-- what a step promises, of the words that it leaves by another name
pub record Left (w bs xs z ys : List ℕ) (r : Answer) : Type 0 where
  pub done : Stepped w bs xs z ys r
  pub reached : Reached (limits_of z) z
  pub limits : limits_of z ≡ limits_of w

pub left : {w bs xs m' z ys : List ℕ} {r : Answer} → z ≡ m' → Left w bs xs m' ys r → Left w bs xs z ys r
left {w = w} {bs = bs} {xs = xs} {ys = ys} {r = r} e a = subst (λ (y : List ℕ). Left w bs xs y ys r) (sym e) a
