-- From an event's first step and its finish to what the definitions answer; and the answers that do nothing.
use Rattle.std.proofs.Common.{◌≡◌, ℕ, Bool, false, not, ◌&&◌, eqb, List, [], length, sym, refl, ap, ◌∙◌, subst, arith}
use Rattle.servers.specs.Store.{pick}
use Rattle.servers.specs.Server as server
use Rattle.servers.specs.Server.{
  Letter,
  Event,
  Limits,
  State,
  does,
  not_leader,
  refused,
  turned,
  place,
  ends_there,
  is_request,
  first_step,
  first_letters,
  stepped,
  doing,
  settles,
  sent_now,
  finished,
  dues,
  after_all,
  after,
  answer,
}
use Rattle.wire.specs.Write.{write_answer}
use Rattle.wire_write.specs.Answers.{answer_of}
use Rattle.wire_write.specs.declared.answer.Answer.{Answer}
use Rattle.state.specs.Memory.{Becomes, limits_of, region_in, state_of}
use Rattle.state.specs.declared.words.Memory.{Memory}
use Rattle.memory.specs.Program.{region_all, region_after, done_from}
use Rattle.checks.specs.Outcome.{refusal_number, refusal_place}
use Rattle.checks.specs.declared.refusal.Refusal.{Refusal}
use Rattle.checks.specs.declared.refusal.Refusal.TheVariants.{NoEvent, OutOfRange, OutOfRow, LogFull, LastTerm}
use Rattle.server.specs.Answered.{Begins, finish_answer, region_finished, Finished, Answered, Room, RoomFor}

-- AN EVENT THAT IS TAKEN, is done to the end, and is no request at one that doesn't lead
pub record Taken (l : Limits) (s : State) (e : Event) : Type 0 where
  pub free : turned l s e ≡ 0
  pub goes_on : ends_there e ≡ false
  pub told : (is_request e && not (eqb s.kind 2)) ≡ false

after_taken : (l : Limits) (s : State) (e : Event) → Taken l s e → after l s e ≡ after_all l (first_step l s e)
after_taken l s e t =
    ap (λ (n : ℕ). pick (eqb n 0) (stepped l s e) s) t.free
    ∙ ap (λ (b : Bool). pick b (first_step l s e) (after_all l (first_step l s e))) t.goes_on

region_taken : (l : Limits) (s : State) (e : Event) (r : List ℕ) → Taken l s e
    → region_after l s e r ≡ region_finished l (first_step l s e) r
region_taken l s e r t =
    let x : List ℕ = region_all (done_from l s e) (dues (done_from l s e)) r in
    ap (λ (n : ℕ). pick (eqb n 0) (pick (ends_there e) r x) r) t.free ∙ ap (λ (b : Bool). pick b r x) t.goes_on

answer_taken : (l : Limits) (s : State) (e : Event) → Taken l s e
    → answer l s e ≡ finish_answer l (first_step l s e) (first_letters l s e)
answer_taken l s e t =
    let a : server.Answer = finish_answer l (first_step l s e) (first_letters l s e) in
    ap (λ (n : ℕ). pick (eqb n 0) (doing l s e) (refused n (place e n))) t.free
    ∙ (ap (λ (b : Bool). pick b not_leader (pick (ends_there e) (does [] []) a)) t.told
    ∙ ap (λ (b : Bool). pick b (does [] []) a) t.goes_on)

-- the answer is reckoned from the memory after the first step
answer_moved : (m m₁ : Memory) (s : State) (ls ks : List Letter) → Becomes m m₁ s → ls ≡ ks
    → finish_answer (limits_of m₁) (state_of m₁) ls ≡ finish_answer (limits_of m) s ks
answer_moved m m₁ s ls ks b e =
    ap (λ (l : Limits). finish_answer l (state_of m₁) ls) b.limits
    ∙ (ap (λ (z : State). finish_answer (limits_of m) z ls) b.state ∙ ap (finish_answer (limits_of m) s) e)

answer_is : (m m₁ : Memory) (e : Event) (ls : List Letter) → Taken (limits_of m) (state_of m) e
    → Becomes m m₁ (first_step (limits_of m) (state_of m) e) → ls ≡ first_letters (limits_of m) (state_of m) e
    → finish_answer (limits_of m₁) (state_of m₁) ls ≡ answer (limits_of m) (state_of m) e
answer_is m m₁ e ls t b f =
    let l : Limits = limits_of m in
    let s : State = state_of m in
    answer_moved m m₁ (first_step l s e) ls (first_letters l s e) b f ∙ sym (answer_taken l s e t)

pub room_taken : (m m₁ : Memory) (e : Event) (ls : List Letter) (n : ℕ) → Taken (limits_of m) (state_of m) e
    → Becomes m m₁ (first_step (limits_of m) (state_of m) e) → ls ≡ first_letters (limits_of m) (state_of m) e → RoomFor m e n
    → Room m₁ (finish_answer (limits_of m₁) (state_of m₁) ls) n
room_taken m m₁ e ls n t b f h =
    let a = ap (λ (z : server.Answer). length (write_answer z)) (answer_is m m₁ e ls t b f) in
    let k = ap (λ (l : Limits). l.room) b.limits in
    let p = h.answer in
    let q = h.told in
    record { answer = omega arith; told = omega arith }

pub taken : (m m₁ m' : Memory) (xs ys : List ℕ) (e : Event) (ls : List Letter) (r : Answer) → Taken (limits_of m) (state_of m) e
    → Becomes m m₁ (first_step (limits_of m) (state_of m) e) → ls ≡ first_letters (limits_of m) (state_of m) e
    → Finished m₁ xs m' ys ls r → Answered m xs m' ys e r
taken m m₁ m' xs ys e ls r t b f d =
    let l : Limits = limits_of m in
    let s : State = state_of m in
    let s₁ : State = first_step l s e in
    let a = answer_is m m₁ e ls t b f in
    record {
      turns = record {
        same = d.turns.same ∙ b.same;
        state =
            d.turns.state
            ∙ (ap (λ (z : Limits). after_all z (state_of m₁)) b.limits ∙ (ap (after_all l) b.state ∙ sym (after_taken l s e t)));
        limits = d.turns.limits ∙ b.limits;
        region =
            d.turns.region
            ∙ (ap (λ (z : Limits). region_finished z (state_of m₁) (region_in m₁)) b.limits
            ∙ (ap (λ (z : State). region_finished l z (region_in m₁)) b.state
            ∙ (ap (region_finished l s₁) b.region ∙ sym (region_taken l s e (region_in m) t))));
      };
      answer_is = d.answer_is ∙ ap answer_of a;
      bytes = subst (λ (z : server.Answer). Begins (write_answer z) xs ys) a d.bytes;
    }

-- AN EVENT THAT IS REFUSED
nonzero : {A : Type 0} (x : Refusal) (a b : A) → pick (eqb (refusal_number x) 0) a b ≡ b
nonzero (NoEvent n) a b = refl
nonzero OutOfRange a b = refl
nonzero OutOfRow a b = refl
nonzero LogFull a b = refl
nonzero LastTerm a b = refl

refused_by : {A : Type 0} (l : Limits) (s : State) (e : Event) (x : Refusal) (a : A) (f : ℕ → A) → turned l s e ≡ refusal_number x
    → pick (eqb (turned l s e) 0) a (f (turned l s e)) ≡ f (refusal_number x)
refused_by l s e x a f t = ap (λ (n : ℕ). pick (eqb n 0) a (f n)) t ∙ nonzero x a (f (refusal_number x))

pub turned_away : (m : Memory) (xs ys : List ℕ) (e : Event) (x : Refusal) (r : Answer)
    → turned (limits_of m) (state_of m) e ≡ refusal_number x → refusal_place x ≡ place e (refusal_number x)
    → r ≡ answer_of (refused (refusal_number x) (refusal_place x)) → Begins (write_answer (refused (refusal_number x) (refusal_place x))) xs ys
    → Answered m xs m ys e r
turned_away m xs ys e x r t p a b =
    let l : Limits = limits_of m in
    let s : State = state_of m in
    let y : List ℕ = pick (ends_there e) (region_in m) (region_all (done_from l s e) (dues (done_from l s e)) (region_in m)) in
    let z : answer l s e ≡ refused (refusal_number x) (refusal_place x) =
    refused_by l s e x (doing l s e) (λ n. refused n (place e n)) t ∙ ap (refused (refusal_number x)) (sym p) in
    record {
      turns = record {
        same = refl;
        state = sym (refused_by l s e x (stepped l s e) (λ n. s) t);
        limits = refl;
        region = sym (refused_by l s e x y (λ n. region_in m) t);
      };
      answer_is = a ∙ ap answer_of (sym z);
      bytes = subst (λ (w : server.Answer). Begins (write_answer w) xs ys) (sym z) b;
    }
