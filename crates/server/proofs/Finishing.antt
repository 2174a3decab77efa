-- From the pieces that finish an event to the whole: settled, sent, applied; and what is told and sent is what the definitions say.
use Rattle.std.proofs.Common.{◌≡◌, ℕ, ◌+◌, ◌≤◌, Bool, true, false, ◌&&◌, eqb, List, ◌++◌, length, refl, ap, ◌∙◌, arith}
use Rattle.std.proofs.lemmas.List.{length-append}
use Rattle.servers.specs.Server.{Said, Letter, Message, Limits, State, does, with_commit, with_send, settled_to, settles, sent_now, sends_now, dues, tell_all, finished, after_all, to_others}
use Rattle.wire.specs.Write.{write_number, write_saids, write_letters, write_answer}
use Rattle.wire_write.proofs.Texts.{length_number}
use Rattle.servers.proofs.Tests.{pick_by}
use Rattle.state.specs.Memory.{Becomes, Turns, limits_of, region_in, state_of}
use Rattle.state.specs.declared.words.Memory.{Memory}
use Rattle.memory.specs.Program.{region_all}
use Rattle.sending.specs.Letters.{asks}
use Rattle.sending.proofs.Later.{after_doing, entries_later}
use Rattle.server.specs.Answered.{finish_answer, region_finished}
use Rattle.server.specs.First.{first_of, entries_if, letters_of}
use Rattle.server.specs.declared.first.First.{First}
use Rattle.server.specs.declared.first.First.TheVariants.{Nothing, Asks, Vote, Reply}

-- the state from which commands are done
abbrev pub ready : Memory → State
ready m = sent_now (settles (limits_of m) (state_of m))

-- what the pieces did, one after the other
pub record Pieces (m m₁ m₂ m₃ : Memory) (send : Bool) : Type 0 where
  pub settled : Becomes m m₁ (settles (limits_of m) (state_of m))
  pub sent : Becomes m₁ m₂ (sent_now (state_of m₁))
  pub why : send ≡ (eqb (state_of m₁).kind 2 && (state_of m₁).send)
  pub done : Turns m₂ m₃ (finished (state_of m₂)) (region_all (state_of m₂) (dues (state_of m₂)) (region_in m₂))

second_state : (m m₁ m₂ m₃ : Memory) (b : Bool) → Pieces m m₁ m₂ m₃ b → state_of m₂ ≡ ready m
second_state m m₁ m₂ m₃ b p = p.sent.state ∙ ap sent_now p.settled.state

pub pieces_turn : (m m₁ m₂ m₃ : Memory) (b : Bool) → Pieces m m₁ m₂ m₃ b
    → Turns m m₃ (after_all (limits_of m) (state_of m)) (region_finished (limits_of m) (state_of m) (region_in m))
pieces_turn m m₁ m₂ m₃ b p =
    let e = second_state m m₁ m₂ m₃ b p in
    record {
      same = p.done.same ∙ (p.sent.same ∙ p.settled.same);
      state = p.done.state ∙ ap finished e;
      limits = p.done.limits ∙ (p.sent.limits ∙ p.settled.limits);
      region =
          p.done.region
          ∙ (ap (λ (z : State). region_all z (dues z) (region_in m₂)) e
          ∙ ap (λ (z : List ℕ). region_all (ready m) (dues (ready m)) z) (p.sent.region ∙ p.settled.region));
    }

-- what is told
pub pieces_tell : (m m₁ m₂ m₃ : Memory) (b : Bool) → Pieces m m₁ m₂ m₃ b
    → tell_all (limits_of m₂) (state_of m₂) (dues (state_of m₂)) ≡ tell_all (limits_of m) (ready m) (dues (ready m))
pieces_tell m m₁ m₂ m₃ b p =
    ap (λ (l : Limits). tell_all l (state_of m₂) (dues (state_of m₂))) (p.sent.limits ∙ p.settled.limits)
    ∙ ap (λ (z : State). tell_all (limits_of m) z (dues z)) (second_state m m₁ m₂ m₃ b p)

-- a request for votes says nothing that settling, sending or doing changes
asks_settled : (l : Limits) (s : State) → asks (settles l s) ≡ asks s
asks_settled l s =
    pick_by (λ (x : State). asks x ≡ asks s) (eqb s.kind 2) (with_commit (settled_to l s s.log) s) s (λ q. refl) (λ q. refl)

asks_sent : (s : State) → asks (sent_now s) ≡ asks s
asks_sent s = pick_by (λ (x : State). asks x ≡ asks s) (eqb s.kind 2) (with_send false s) s (λ q. refl) (λ q. refl)

asks_finished : (l : Limits) (s : State) → asks (after_all l s) ≡ asks s
asks_finished l s =
    let r : State = sent_now (settles l s) in
    after_doing asks (λ d c x. refl) r (dues r) ∙ (asks_sent (settles l s) ∙ asks_settled l s)

first_finished : (l : Limits) (s : State) (x : First) → first_of l (after_all l s) x ≡ first_of l s x
first_finished l s Nothing = refl
first_finished l s Asks = ap (λ (z : Message). to_others l.servers l.me (λ h. z)) (asks_finished l s)
first_finished l s (Vote h t ok) = refl
first_finished l s (Reply h t i ok) = refl

entries_finished : (l : Limits) (s : State) (b : Bool) → entries_if b l (finished (sent_now s)) ≡ entries_if b l s
entries_finished l s true = entries_later l.servers l.me s
entries_finished l s false = refl

-- what is sent
pub pieces_send : (m m₁ m₂ m₃ : Memory) (b : Bool) (x : First) → Pieces m m₁ m₂ m₃ b
    → letters_of b (limits_of m₃) (state_of m₃) x
    ≡ first_of (limits_of m) (state_of m) x ++ sends_now (limits_of m) (settles (limits_of m) (state_of m))
pieces_send m m₁ m₂ m₃ b x p =
    let l : Limits = limits_of m in
    let s : State = state_of m in
    let t = pieces_turn m m₁ m₂ m₃ b p in
    let why : b ≡ (eqb (settles l s).kind 2 && (settles l s).send) = p.why ∙ ap (λ (z : State). eqb z.kind 2 && z.send) p.settled.state in
    ap (λ (k : Limits). letters_of b k (state_of m₃) x) t.limits
    ∙ (ap (λ (z : State). letters_of b l z x) t.state
    ∙ (ap (λ (z : List Letter). z ++ entries_if b l (after_all l s)) (first_finished l s x)
    ∙ (ap (λ (z : List Letter). first_of l s x ++ z) (entries_finished l (settles l s) b)
    ∙ ap (λ (z : Bool). first_of l s x ++ entries_if z l (settles l s)) why)))

-- the bytes of an answer, by its parts
pub length_does : (ss : List Said) (ls : List Letter)
    → length (write_answer (does ss ls)) ≡ 9 + length (write_saids ss) + 8 + length (write_letters ls)
length_does ss ls =
    let a = length-append (write_number (length ss)) (write_saids ss ++ (write_number (length ls) ++ write_letters ls)) in
    let b = length-append (write_saids ss) (write_number (length ls) ++ write_letters ls) in
    let c = length-append (write_number (length ls)) (write_letters ls) in
    let n = length_number (length ss) in
    let k = length_number (length ls) in
    omega arith

-- there is room for the letters after what is told
pub letters_fit : (m m₁ m₂ m₃ : Memory) (b : Bool) (x : First) (n : ℕ) → Pieces m m₁ m₂ m₃ b
    → length (write_answer (finish_answer (limits_of m) (state_of m) (first_of (limits_of m) (state_of m) x))) ≤ n
    → 9 + length (write_saids (tell_all (limits_of m₂) (state_of m₂) (dues (state_of m₂)))) + 8
    + length (write_letters (letters_of b (limits_of m₃) (state_of m₃) x)) ≤ n
letters_fit m m₁ m₂ m₃ b x n p h =
    let l : Limits = limits_of m in
    let ls : List Letter = first_of l (state_of m) x ++ sends_now l (settles l (state_of m)) in
    let ss : List Said = tell_all l (ready m) (dues (ready m)) in
    let a = length_does ss ls in
    let t = ap (λ (z : List Said). length (write_saids z)) (pieces_tell m m₁ m₂ m₃ b p) in
    let s = ap (λ (z : List Letter). length (write_letters z)) (pieces_send m m₁ m₂ m₃ b x p) in
    omega arith
