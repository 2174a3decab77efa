-- A session goes on by one record.
use Rattle.std.proofs.Common.{◌≡◌, ℕ, ◌+◌, ◌-◌, ◌<◌, ◌≤◌, ltb, List, [], ◌∷◌, ◌++◌, length, take, drop, sym, refl, ap, ◌∙◌, subst, arith}
use Rattle.std.proofs.lemmas.List.{length-drop, drop-drop}
use Rattle.std.proofs.lemmas.Bool.{ltb-false}
use Rattle.servers.proofs.Tests.{pick_by}
use Rattle.wire.specs.Read.{Read, got, stuck, and_then, number_of, read_number, read_bytes, read_text, read_event}
use Rattle.memory.specs.Program.{serves, called}
use Rattle.state.specs.Held.{limits_of}
use Rattle.server.specs.Reached.{Reached}
use Rattle.session.specs.declared.run.Taken.{Taken}
use Rattle.session.specs.Running.{answer_record, RanOne, memory_after, answers_of, Stand, Ran}

pub ran_none : (m rs xs : List ℕ) → Reached (limits_of m) m → Ran m rs xs m xs (record { read = 0; written = 0 })
unfolding memory_after answers_of Stand
ran_none m rs xs x =
    record {
      events = [];
      stand = refl;
      within = omega arith;
      memory = refl;
      answers = refl;
      room = omega arith;
      long = refl;
      reached = x;
      limits = refl;
    }

pub ran_more : (m rs xs m₁ ys : List ℕ) (t : Taken) (b m₂ zs : List ℕ) (next w : ℕ) → Ran m rs xs m₁ ys t
    → read_text (drop t.read rs) ≡ got b (drop next rs) → next ≤ length rs → RanOne m₁ b ys t.written m₂ zs w
    → Ran m rs xs m₂ zs (record { read = next; written = w })
unfolding memory_after answers_of Stand
ran_more m rs xs m₁ ys t b m₂ zs next w r e h o =
    record {
      events = b ∷ r.events;
      stand = (t.read, (r.stand, e));
      within = h;
      memory = o.memory ∙ ap (λ (z : List ℕ). called serves z (read_event b)) r.memory;
      answers = o.front
          ∙ (ap (λ (z : List ℕ). z ++ answer_record m₁ b) r.answers ∙ ap (λ (z : List ℕ). answers_of m r.events ++ answer_record z b) r.memory);
      room = o.room;
      long = o.long ∙ r.long;
      reached = o.reached;
      limits = o.limits ∙ r.limits;
    }

-- a record takes bytes from the front, and what it leaves is the end of what was there
abbrev Leaves : List ℕ → Read (List ℕ) → Type 0
Leaves bs (got t r) = (length r < length bs) × (drop (length bs - length r) bs ≡ r)
Leaves bs (stuck k) = Unit {0}

bytes_leave : (bs : List ℕ) (n : ℕ) → 8 ≤ length bs → Leaves bs (read_bytes n (drop 8 bs))
unfolding read_bytes
bytes_leave bs n h =
    pick_by (Leaves bs) (ltb (length (drop 8 bs)) n) (stuck 0) (got (take n (drop 8 bs)) (drop n (drop 8 bs))) (λ q. tt)
    (λ q.
    let few = ltb-false (length (drop 8 bs)) n q in
    let l = length-drop 8 bs in
    let k = length-drop n (drop 8 bs) in
    let z : length bs - length (drop n (drop 8 bs)) ≡ 8 + n = omega arith in
    (omega arith, rw z (sym (drop-drop n 8 bs))))

text_leaves : (bs : List ℕ) → Leaves bs (read_text bs)
unfolding read_text read_number
text_leaves bs =
    pick_by (λ (y : Read ℕ). Leaves bs (and_then y read_bytes)) (ltb (length bs) 8) (stuck 0) (got (number_of (take 8 bs)) (drop 8 bs))
    (λ q. tt) (λ q. bytes_leave bs (number_of (take 8 bs)) (ltb-false (length bs) 8 q))

pub leaves : (bs t r : List ℕ) → read_text bs ≡ got t r → Leaves bs (got t r)
leaves bs t r e = subst (λ (x : Read (List ℕ)). Leaves bs x) e (text_leaves bs)

-- what is left of records, and how many bytes of them were read
pub record Left (rs rest : List ℕ) : Type 0 where
  pub few : length rest ≤ length rs
  pub is : drop (length rs - length rest) rs ≡ rest

pub left_all : (rs : List ℕ) → Left rs rs
left_all rs = let z : length rs - length rs ≡ 0 = omega arith in record { few = omega arith; is = rw z refl }

pub left_less : (rs bs r : List ℕ) → Left rs bs → length r < length bs → drop (length bs - length r) bs ≡ r → Left rs r
left_less rs bs r h l e =
    let few = h.few in
    let z : length rs - length r ≡ (length rs - length bs) + (length bs - length r) = omega arith in
    record { few = omega arith; is = rw (z, ← drop-drop (length bs - length r) (length rs - length bs) rs, h.is) e }

-- a session as it stands: what it took so far, and what is left to take
pub record Going (m rs xs m' ys rest : List ℕ) (w : ℕ) : Type 0 where
  pub ran : Ran m rs xs m' ys (record { read = length rs - length rest; written = w })
  pub left : Left rs rest

pub going_none : (m rs xs : List ℕ) → Reached (limits_of m) m → Going m rs xs m xs rs 0
going_none m rs xs x =
    let z : length rs - length rs ≡ 0 = omega arith in record { ran = rw z (ran_none m rs xs x); left = left_all rs }

pub going_more : (m rs xs m₁ ys rest : List ℕ) (w : ℕ) (b m₂ zs r : List ℕ) (w₂ : ℕ) → Going m rs xs m₁ ys rest w
    → read_text rest ≡ got b r → RanOne m₁ b ys w m₂ zs w₂ → Going m rs xs m₂ zs r w₂
going_more m rs xs m₁ ys rest w b m₂ zs r w₂ g e o =
    let l = leaves rest b r e in
    let h = left_less rs rest r g.left l.0 l.1 in
    record {
      ran = ran_more m rs xs m₁ ys (record { read = length rs - length rest; written = w }) b m₂ zs (length rs - length r) w₂ g.ran
          (rw (g.left.is, h.is) e) (omega arith) o;
      left = h;
    }
