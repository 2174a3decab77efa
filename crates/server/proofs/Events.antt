-- What the first step of each event leaves to be sent, and when the state refuses an event.
use Rattle.std.proofs.Common.{◌≡◌, ℕ, Bool, true, false, not, ◌&&◌, ◌||◌, eqb, leb, List, [], length, sym, refl, ap, ◌∙◌, subst, arith}
use Rattle.servers.specs.Store.{pick, Command}
use Rattle.servers.specs.Server as server
use Rattle.wire.specs.Write.{write_answer}
use Rattle.wire_write.specs.Answers.{answer_of}
use Rattle.wire_write.specs.declared.answer.Answer.{Answer}
use Rattle.state.specs.Memory.{Becomes, Turns, limits_of, region_in, state_of}
use Rattle.state.specs.declared.words.Memory.{Memory}
use Rattle.checks.specs.Refusals.{by_state}
use Rattle.servers.specs.Server.{
  Event,
  Limits,
  State,
  timeout,
  request,
  not_leader,
  refused,
  place,
  turned,
  first_step,
  first_letters,
  with_request,
  with_commit,
  with_send,
  settled_to,
  settles,
  sent_now,
  finished,
  dues,
  stepped,
  doing,
  answer,
}
use Rattle.memory.specs.Program.{serves, region_all, done_from}
use Rattle.election.specs.Steps.{goes_on}
use Rattle.server.specs.Answered.{Begins, Answered, finish_answer}
use Rattle.server.specs.First.{first_of}
use Rattle.server.specs.declared.first.First.{First}
use Rattle.server.specs.declared.first.First.TheVariants.{Nothing, Asks}

-- time is up
zero_five : (b : Bool) → ◌≡◌ {A = ℕ} (pick b 0 5) 0 → b ≡ true
zero_five true e = refl
zero_five false e = absurd (omega arith)

pub timeout_goes_on : (l : Limits) (s : State) → l.events_can ≡ serves → turned l s timeout ≡ 0 → goes_on s ≡ true
timeout_goes_on l s c e =
    zero_five (goes_on s) (sym (ap (λ (f : ℕ → Bool). pick ((false || f 0) && true) (pick (goes_on s) 0 5) 2) c) ∙ e)

pub timeout_free : (l : Limits) (s : State) → l.events_can ≡ serves → goes_on s ≡ true → turned l s timeout ≡ 0
timeout_free l s c e =
    ap (λ (f : ℕ → Bool). pick ((false || f 0) && true) (pick (goes_on s) 0 5) 2) c ∙ ap (λ (b : Bool). pick b 0 5) e

pub timeout_last : (l : Limits) (s : State) → l.events_can ≡ serves → goes_on s ≡ false → turned l s timeout ≡ 5
timeout_last l s c e =
    ap (λ (f : ℕ → Bool). pick ((false || f 0) && true) (pick (goes_on s) 0 5) 2) c ∙ ap (λ (b : Bool). pick b 0 5) e

letters_by : (l : Limits) (s : State) (b : Bool) → eqb s.kind 2 ≡ b
    → first_of l (first_step l s timeout) (pick b Nothing Asks) ≡ first_letters l s timeout
letters_by l s true e = rw e refl
letters_by l s false e = rw e refl

pub timeout_letters : (m m₁ : Memory) (b : Bool) (x : First) → Becomes m m₁ (first_step (limits_of m) (state_of m) timeout)
    → b ≡ eqb (state_of m).kind 2 → x ≡ pick b Nothing Asks
    → first_of (limits_of m₁) (state_of m₁) x ≡ first_letters (limits_of m) (state_of m) timeout
timeout_letters m m₁ b x t e f =
    ap (first_of (limits_of m₁) (state_of m₁)) f
    ∙ (ap (λ (l : Limits). first_of l (state_of m₁) (pick b Nothing Asks)) t.limits
    ∙ (ap (λ (s : State). first_of (limits_of m) s (pick b Nothing Asks)) t.state
    ∙ letters_by (limits_of m) (state_of m) b (sym e)))

-- a client asks
pub request_full : (l : Limits) (s : State) (c k : ℕ) (x : Command) → (eqb s.kind 2 && leb l.room (length s.log)) ≡ true
    → by_state l s (request c k x) ≡ 4
request_full l s c k x e = ap (λ (b : Bool). pick b 4 0) e

pub request_free : (l : Limits) (s : State) (c k : ℕ) (x : Command) → (eqb s.kind 2 && leb l.room (length s.log)) ≡ false
    → by_state l s (request c k x) ≡ 0
request_free l s c k x e = ap (λ (b : Bool). pick b 4 0) e

pub request_step : (m m₁ : Memory) (c k : ℕ) (x : Command) → eqb (state_of m).kind 2 ≡ true
    → Becomes m m₁ (with_request (limits_of m) c k x (state_of m))
    → Becomes m m₁ (first_step (limits_of m) (state_of m) (request c k x))
request_step m m₁ c k x e b =
    let l : Limits = limits_of m in
    let s : State = state_of m in
    subst (λ (z : State). Becomes m m₁ z) (sym (ap (λ (t : Bool). pick t (with_request l c k x s) s) e)) b

-- who doesn't lead settles and sends nothing
idle_ready : (l : Limits) (s : State) → eqb s.kind 2 ≡ false → sent_now (settles l s) ≡ s
idle_ready l s e =
    ap sent_now (ap (λ (t : Bool). pick t (with_commit (settled_to l s s.log) s) s) e)
    ∙ ap (λ (t : Bool). pick t (with_send false s) s) e

first_idle : (l : Limits) (s : State) (c k : ℕ) (x : Command) → eqb s.kind 2 ≡ false → first_step l s (request c k x) ≡ s
first_idle l s c k x e = ap (λ (t : Bool). pick t (with_request l c k x s) s) e

idle_from : (l : Limits) (s : State) (c k : ℕ) (x : Command) → eqb s.kind 2 ≡ false → done_from l s (request c k x) ≡ s
idle_from l s c k x e = ap (λ (z : State). sent_now (settles l z)) (first_idle l s c k x e) ∙ idle_ready l s e

pub request_declined : (m : Memory) (xs : List ℕ) (m' : Memory) (ys : List ℕ) (c k : ℕ) (x : Command) (r : Answer)
    → turned (limits_of m) (state_of m) (request c k x) ≡ 0 → eqb (state_of m).kind 2 ≡ false
    → Turns m m' (finished (state_of m)) (region_all (state_of m) (dues (state_of m)) (region_in m)) → r ≡ answer_of not_leader
    → Begins (write_answer not_leader) xs ys → Answered m xs m' ys (request c k x) r
request_declined m xs m' ys c k x r o e t a b =
    let l : Limits = limits_of m in
    let s : State = state_of m in
    let ev : Event = request c k x in
    let z : answer l s ev ≡ not_leader =
    ap (λ (n : ℕ). pick (eqb n 0) (doing l s ev) (refused n (place ev n))) o
    ∙ ap (λ (q : Bool). pick (not q) not_leader (finish_answer l (first_step l s ev) [])) e in
    record {
      turns = record {
        same = t.same;
        state =
            t.state
            ∙ (ap finished (sym (idle_from l s c k x e)) ∙ sym (ap (λ (n : ℕ). pick (eqb n 0) (stepped l s ev) s) o));
        limits = t.limits;
        region =
            t.region
            ∙ (ap (λ (w : State). region_all w (dues w) (region_in m)) (sym (idle_from l s c k x e))
            ∙ sym (ap (λ (n : ℕ). pick (eqb n 0) (region_all (done_from l s ev) (dues (done_from l s ev)) (region_in m)) (region_in m)) o));
      };
      answer_is = a ∙ ap answer_of (sym z);
      bytes = subst (λ (w : server.Answer). Begins (write_answer w) xs ys) (sym z) b;
    }
