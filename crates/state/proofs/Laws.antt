-- From a memory that is held to the next: leaf, chain and top.
use Rattle.std.proofs.Common.{◌≡◌, ℕ, ◌+◌, ◌*◌, ◌≤◌, max, List, length, get_or, sym, refl, ap, ◌∙◌, subst, inl, inr, arith}
use Rattle.std.proofs.lemmas.Bool.{cases_lt, lt-ltb, le-ltb}
use Rattle.servers.specs.Server.{Limits, State, Event, last_index, at_least, after}
use Rattle.servers.proofs.Tests.{pick_true, pick_false}
use Rattle.raft_log.proofs.Places.{log_in_row, last_index_row}
use Rattle.memory.specs.Layout as layout
use Rattle.memory.specs.Layout.{memory_of, log_part}
use Rattle.memory.specs.Fits.{Bounded, Fits}
use Rattle.memory.specs.Program.{serves, region_after, called}
use Rattle.memory.proofs.Back.{state_back, region_back}
use Rattle.memory.proofs.Size.{length_memory}
use Rattle.state.specs.Held as held
use Rattle.state.specs.Held.{Held}
use Rattle.state.specs.Memory.{limits_of, state_of, region_in, Turns, Becomes}
use Rattle.state.specs.declared.words.Memory.{Memory}

-- the memory of what fits is held
held_memory : (m : List ℕ) (s : State) (r : List ℕ) → Bounded (held.limits_of m) → Fits (held.limits_of m) s r
    → held.Turns m (memory_of (held.limits_of m) s r) s r
held_memory m s r g f =
    let l : Limits = held.limits_of m in
    let w : List ℕ = memory_of l s r in
    let a : held.state_of w ≡ s = state_back l s.applied s r f in
    let b : layout.region_in w ≡ r = region_back l s.applied s r f in
    record {
      held = record {
        is = sym (ap (λ (z : State). memory_of l z (layout.region_in w)) a ∙ ap (λ (z : List ℕ). memory_of l s z) b);
        fits = subst (λ (z : State). Fits l z (layout.region_in w)) (sym a) (subst (λ (z : List ℕ). Fits l s z) (sym b) f);
        good = g;
      };
      state = a;
      limits = refl;
      region = b;
    }

-- leaf: what was written is the memory of a state and a region that fit
pub turns : (m m' : List ℕ) (s : State) (r : List ℕ) → Held m → m' ≡ memory_of (held.limits_of m) s r → Fits (held.limits_of m) s r → held.Turns m m' s r
turns m m' s r h e f = subst (λ (z : List ℕ). held.Turns m z s r) (sym e) (held_memory m s r h.good f)

pub becomes : (m m' : List ℕ) (s : State) → Held m → m' ≡ memory_of (held.limits_of m) s (layout.region_in m) → Fits (held.limits_of m) s (layout.region_in m)
    → held.Becomes m m' s
becomes m m' s h e f = turns m m' s (layout.region_in m) h e f

-- leaf: a change f of words that is the change g of states
pub written : (f : List ℕ → List ℕ) (g : Limits → State → State)
    → ((l : Limits) (s : State) (r : List ℕ) → f (memory_of l s r) ≡ memory_of l (g l s) r)
    → (m : List ℕ) → Held m → Fits (held.limits_of m) (g (held.limits_of m) (held.state_of m)) (layout.region_in m)
    → held.Becomes m (f m) (g (held.limits_of m) (held.state_of m))
written f g e m h k =
    becomes m (f m) (g (held.limits_of m) (held.state_of m)) h (ap f h.is ∙ e (held.limits_of m) (held.state_of m) (layout.region_in m)) k

-- from words to the memory that lends them
pub of_words : (m m' : Memory) (s : State) → m'.words.ghost_name ≡ m.words.ghost_name → held.Becomes m.words.now m'.words.now s → Becomes m m' s
of_words m m' s e b = record { same = e; state = b.state; limits = b.limits; region = b.region }

pub of_turns : (m m' : Memory) (s : State) (r : List ℕ) → m'.words.ghost_name ≡ m.words.ghost_name
    → held.Turns m.words.now m'.words.now s r → Turns m m' s r
of_turns m m' s r e t = record { same = e; state = t.state; limits = t.limits; region = t.region }

pub stays : (m : Memory) → Becomes m m (state_of m)
stays m = record { same = refl; state = refl; limits = refl; region = refl }

-- the same state, said otherwise
pub turns_said : (m m' : Memory) (s t : State) (r u : List ℕ) → s ≡ t → r ≡ u → Turns m m' s r → Turns m m' t u
turns_said m m' s t r u e k a = record { same = a.same; state = a.state ∙ e; limits = a.limits; region = a.region ∙ k }

pub said : (m m' : Memory) (s t : State) → s ≡ t → Becomes m m' s → Becomes m m' t
said m m' s t e b = turns_said m m' s t (region_in m) (region_in m) e refl b

-- chain: one change after the other
pub next_then : (f : Limits → State → State) (m m₁ m₂ : Memory) (s : State)
    → Becomes m m₁ s → Becomes m₁ m₂ (f (limits_of m₁) (state_of m₁)) → Becomes m m₂ (f (limits_of m) s)
next_then f m m₁ m₂ s a b =
    record {
      same = b.same ∙ a.same;
      state = b.state ∙ (ap (λ (l : Limits). f l (state_of m₁)) a.limits ∙ ap (f (limits_of m)) a.state);
      limits = b.limits ∙ a.limits;
      region = b.region ∙ a.region;
    }

-- one change after the other, by what the second makes of any state, and where they lead together; the second leaves the region
pub turns_then : (f : State → State) (m m₁ m₂ : Memory) (s t : State) (r u : List ℕ)
    → Turns m m₁ s r → Becomes m₁ m₂ (f (state_of m₁)) → f s ≡ t → r ≡ u → Turns m m₂ t u
turns_then f m m₁ m₂ s t r u a b e k =
    record {
      same = b.same ∙ a.same;
      state = b.state ∙ (ap f a.state ∙ e);
      limits = b.limits ∙ a.limits;
      region = b.region ∙ (a.region ∙ k);
    }

pub then_to : (f : State → State) (m m₁ m₂ : Memory) (s t : State)
    → Becomes m m₁ s → Becomes m₁ m₂ (f (state_of m₁)) → f s ≡ t → Becomes m m₂ t
then_to f m m₁ m₂ s t a b e = turns_then f m m₁ m₂ s t (region_in m) (region_in m) a b e refl

-- top: the memory is what the program of the promises leaves
pub called_from : (m m' : Memory) (e : Event)
    → Turns m m' (after (limits_of m) (state_of m) e) (region_after (limits_of m) (state_of m) e (region_in m))
    → m'.words.now ≡ called serves m.words.now e
called_from m m' e t =
    let l : Limits = limits_of m in
    m'.held.is
    ∙ (ap (λ (z : Limits). memory_of z (state_of m') (region_in m')) t.limits
    ∙ (ap (λ (z : State). memory_of l z (region_in m')) t.state
    ∙ ap (λ (z : List ℕ). memory_of l (after l (state_of m) e) z) t.region))

-- lengths: with these every index is within
pub long : (m : List ℕ) → Held m
    → length m ≡ 14 + 2 * layout.servers_in m + 68 * layout.clients_in m + 80 * layout.room_in m + length (layout.region_in m)
long m h = ap length h.is ∙ length_memory (held.limits_of m) (held.state_of m).applied (held.state_of m) (layout.region_in m) h.fits

-- the log's length is within its room
pub long_log : (m : List ℕ) → Held m → get_or m 10 0 ≤ layout.room_in m
long_log m h = let z = h.fits.1.room in let y = (log_in_row (get_or m 10 0) (log_part m)).1 in omega arith

-- the last index is the length
pub last_is : (m : List ℕ) → last_index (held.state_of m).log ≡ get_or m 10 0
last_is m =
    let row = log_in_row (get_or m 10 0) (log_part m) in
    last_index_row (held.state_of m).log row.0 ∙ row.1

-- the larger of two numbers, as the library has it
pub at_least_is : (a b : ℕ) → max a b ≡ at_least a b
at_least_is a b =
    elim (cases_lt a b) [
      | inl k ↦ sym (pick_true _ b a (lt-ltb a b k) ∙ omega arith)
      | inr k ↦ sym (pick_false _ b a (le-ltb a b k) ∙ omega arith)
    ]
