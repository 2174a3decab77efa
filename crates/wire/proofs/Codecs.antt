-- The laws of a codec, and how codecs are put together: one after the other, a count before what it counts, a tag before a
-- choice. Every reader of specs/Read.antt is an instance (Numbers, Commands, Messages, Events).
use Rattle.std.proofs.Common.{◌≡◌, ℕ, suc, true, ltb, List, [], ◌∷◌, ◌++◌, length, sym, refl, ap, ◌∙◌, subst}
use Rattle.std.proofs.lemmas.List.{append_assoc}
use Rattle.std.proofs.lemmas.Bool.{and_parts, and_from}
use Rattle.servers.specs.Promise.{all_below, bytes}
use Rattle.wire.specs.Read.{Read, got, stuck, and_then}

-- What a reader makes of bytes: they begin with a value's; or they end too early, and begin some value's; or there is a byte
-- that can't stand where it does, whatever comes after it, and what is before it begins some value's.
pub data Seen {X C : Type 0} (write : X → List ℕ) (Good : X → Type 0) (read : List ℕ → Read C) (bs : List ℕ) : Type 0 where
  whole : (x : X) (rest : List ℕ) → Good x → bs ≡ write x ++ rest → Seen write Good read bs
  short : (x : X) (more : List ℕ) → Good x → write x ≡ bs ++ more → read bs ≡ stuck 0 → Seen write Good read bs
  wrong :
      (p : List ℕ) (b : ℕ) (y : List ℕ) (x : X) (more : List ℕ) → bs ≡ p ++ (b ∷ y) → Good x → write x ≡ p ++ more
      → ((z : List ℕ) → read (p ++ (b ∷ z)) ≡ stuck (suc (length z))) → Seen write Good read bs

-- X is what is written, and the reader gives its value in C; Good says what can be written
pub record Codec {X C : Type 0} (value : X → C) (write : X → List ℕ) (Good : X → Type 0) (read : List ℕ → Read C) : Type 0 where
  pub some : X
  pub good : Good some
  pub low : (x : X) → Good x → bytes (write x) ≡ true
  pub back : (x : X) (rest : List ℕ) → Good x → read (write x ++ rest) ≡ got (value x) rest
  pub seen : (bs : List ℕ) → bytes bs ≡ true → Seen write Good read bs

abbrev pub same : {A : Type 0} → A → A
same a = a

pub bytes_rest : (a b : List ℕ) → bytes (a ++ b) ≡ true → bytes b ≡ true
unfolding all_below
bytes_rest [] b h = h
bytes_rest (x ∷ a) b h = bytes_rest a b (and_parts (ltb x 256) (bytes (a ++ b)) h).1

pub bytes_append : (a b : List ℕ) → bytes a ≡ true → bytes b ≡ true → bytes (a ++ b) ≡ true
unfolding all_below
bytes_append [] b p q = q
bytes_append (x ∷ a) b p q =
    let h = and_parts (ltb x 256) (bytes a) p in
    and_from (ltb x 256) (bytes (a ++ b)) h.0 (bytes_append a b h.1 q)

-- one codec after another, which may go by what was read before
pub then :
    {A B C : Type 0} {w : A → List ℕ} {g : A → Type 0} {r : List ℕ → Read A} {value : A → B → C} {v : B → List ℕ} {h : A → B → Type 0}
    {k : A → List ℕ → Read C} → Codec same w g r → ((a : A) → Codec (value a) v (h a) (k a))
    → Codec (λ (x : A × B). value x.0 x.1) (λ x. w x.0 ++ v x.1) (λ x. g x.0 × h x.0 x.1) (λ bs. and_then (r bs) k)
then {A} {B} {C} {w} {g} {r} {value} {v} {h} {k} c d =
    record {
      some = (c.some, (d c.some).some);
      good = (c.good, (d c.some).good);
      low = λ x q. bytes_append (w x.0) (v x.1) (c.low x.0 q.0) ((d x.0).low x.1 q.1);
      back = λ x rest q. on x rest q;
      seen = λ bs q. first bs q (c.seen bs q);
    }
  where
    W : A × B → List ℕ
    W x = w x.0 ++ v x.1

    past : (a : A) (rest : List ℕ) → g a → and_then (r (w a ++ rest)) k ≡ k a rest
    past a rest q = ap (λ (y : Read A). and_then y k) (c.back a rest q)

    on : (x : A × B) (rest : List ℕ) → g x.0 × h x.0 x.1 → and_then (r (W x ++ rest)) k ≡ got (value x.0 x.1) rest
    on x rest q =
        ap (λ (y : List ℕ). and_then (r y) k) (append_assoc (w x.0) (v x.1) rest)
        ∙ past x.0 (v x.1 ++ rest) q.0 ∙ (d x.0).back x.1 rest q.1

    Both : List ℕ → Type 0
    Both bs = Seen W (λ x. g x.0 × h x.0 x.1) (λ y. and_then (r y) k) bs

    second : (a : A) (rest : List ℕ) → g a → Seen v (h a) (k a) rest → Both (w a ++ rest)
    second a rest q (whole y z t e) = whole (a, y) z (q, t) (ap (λ (u : List ℕ). w a ++ u) e ∙ sym (append_assoc (w a) (v y) z))
    second a rest q (short y more t e s) = short (a, y) more (q, t) (rw (e, append_assoc (w a) rest more)) (past a rest q ∙ s)
    second a rest q (wrong p b z y more e t s f) =
        wrong (w a ++ p) b z (a, y) more (rw (e, append_assoc (w a) p (b ∷ z))) (q, t) (rw (s, append_assoc (w a) p more))
        (λ u. rw append_assoc (past a (p ++ (b ∷ u)) q ∙ f u))

    first : (bs : List ℕ) → bytes bs ≡ true → Seen w g r bs → Both bs
    first bs q (whole a rest t e) =
        subst Both (sym e) (second a rest t ((d a).seen rest (bytes_rest (w a) rest (subst (λ y. bytes y ≡ true) e q))))
    first bs q (short a more t e s) =
        short (a, (d a).some) (more ++ v (d a).some) (t, (d a).good)
        (rw (e, append_assoc bs more (v (d a).some))) (ap (λ (y : Read A). and_then y k) s)
    first bs q (wrong p b z a more e t s f) =
        wrong p b z (a, (d a).some) (more ++ v (d a).some) e (t, (d a).good) (rw (s, append_assoc p more (v (d a).some)))
        (λ u. ap (λ (y : Read A). and_then y k) (f u))

-- a codec's value, as a part of another value
pub last :
    {X A C : Type 0} {value : X → A} {w : X → List ℕ} {g : X → Type 0} {r : List ℕ → Read A} → Codec value w g r → (f : A → C)
    → Codec (λ x. f (value x)) w g (λ bs. and_then (r bs) (λ a rest. got (f a) rest))
last {X} {A} {C} {value} {w} {g} {r} c f =
    record {
      some = c.some;
      good = c.good;
      low = c.low;
      back = λ x rest q. ap on (c.back x rest q);
      seen = λ bs q. so bs (c.seen bs q);
    }
  where
    on : Read A → Read C
    on y = and_then y (λ a rest. got (f a) rest)

    so : (bs : List ℕ) → Seen w g r bs → Seen w g (λ y. on (r y)) bs
    so bs (whole x rest t e) = whole x rest t e
    so bs (short x more t e s) = short x more t e (ap on s)
    so bs (wrong p b z x more e t s f) = wrong p b z x more e t s (λ u. ap on (f u))

-- the same bytes under other names: `to` for all that is good, `from` for the way back
pub recode :
    {X Y C : Type 0} {value : X → C} {w : X → List ℕ} {g : X → Type 0} {r : List ℕ → Read C}
    {value' : Y → C} {w' : Y → List ℕ} {g' : Y → Type 0}
    → Codec value w g r → (to : X → Y) → ((x : X) → g x → g' (to x) × (w' (to x) ≡ w x))
    → (from : Y → X) → ((y : Y) → g' y → g (from y) × (w (from y) ≡ w' y) × (value (from y) ≡ value' y)) → Codec value' w' g' r
recode {X} {Y} {C} {value} {w} {g} {r} {value'} {w'} {g'} c to there from here =
    record { some = to c.some; good = (there c.some c.good).0; low = low; back = on; seen = λ bs q. so bs (c.seen bs q) }
  where
    low : (y : Y) → g' y → bytes (w' y) ≡ true
    low y q = let h = here y q in subst (λ (t : List ℕ). bytes t ≡ true) h.1 (c.low (from y) h.0)

    on : (y : Y) (rest : List ℕ) → g' y → r (w' y ++ rest) ≡ got (value' y) rest
    on y rest q = let h = here y q in rw (← h.1, ← h.2) (c.back (from y) rest h.0)

    so : (bs : List ℕ) → Seen w g r bs → Seen w' g' r bs
    so bs (whole x rest t e) = let h = there x t in whole (to x) rest h.0 (rw h.1 e)
    so bs (short x more t e s) = let h = there x t in short (to x) more h.0 (h.1 ∙ e) s
    so bs (wrong p b z x more e t s f) = let h = there x t in wrong p b z (to x) more e h.0 (h.1 ∙ s) f

-- a number, and so many of what it counts
pub counted :
    {A C : Type 0} {n : ℕ → List ℕ} {g : ℕ → Type 0} {r : List ℕ → Read ℕ} {value : List A → C} {w : List A → List ℕ} {h : List A → Type 0}
    {k : ℕ → List ℕ → Read C} → Codec same n g r → ((m : ℕ) → Codec value w (λ es. h es × (length es ≡ m)) (k m))
    → Codec value (λ es. n (length es) ++ w es) (λ es. h es × g (length es)) (λ bs. and_then (r bs) k)
counted {A} {n} {g} {w} c d =
    recode (then c d) (λ x. x.1)
    (λ x q. ((q.1.0, subst g (sym q.1.1) q.0), ap (λ m. n m ++ w x.1) q.1.1))
    (λ es. (length es, es)) (λ es q. ((q.1, (q.0, refl)), refl, refl))

-- a codec by itself, so that it can have a name without its type being written out
pub record Arm (C : Type 0) : Type 1 where
  pub of : Type 0
  pub value : of → C
  pub write : of → List ℕ
  pub Good : of → Type 0
  pub read : List ℕ → Read C
  pub laws : Codec value write Good read

abbrev pub arm : {X C : Type 0} {value : X → C} {w : X → List ℕ} {g : X → Type 0} {r : List ℕ → Read C} → Codec value w g r → Arm C
arm {X} {C} {value} {w} {g} {r} c = record { of = X; value = value; write = w; Good = g; read = r; laws = c }

-- one choice of a reader that goes by its first byte
pub tag :
    {X C : Type 0} {value : X → C} {w : X → List ℕ} {g : X → Type 0} {r : List ℕ → Read C}
    {w' : C → List ℕ} {g' : C → Type 0} {r' : List ℕ → Read C}
    → (i : ℕ) → Codec value w g r → ((z : List ℕ) → r' (i ∷ z) ≡ r z) → ((x : X) → g x → g' (value x) × (w' (value x) ≡ i ∷ w x))
    → (bs : List ℕ) → bytes (i ∷ bs) ≡ true → Seen w' g' r' (i ∷ bs)
tag {X} {C} {value} {w} {g} {r} {w'} {g'} {r'} i c as-there there bs q = so (c.seen bs (bytes_rest (i ∷ []) bs q))
  where
    so : Seen w g r bs → Seen w' g' r' (i ∷ bs)
    so (whole x rest t e) = let h = there x t in whole (value x) rest h.0 (rw (h.1, e))
    so (short x more t e s) = let h = there x t in short (value x) more h.0 (rw (h.1, e)) (as-there bs ∙ s)
    so (wrong p b z x more e t s f) =
        let h = there x t in wrong (i ∷ p) b z (value x) more (rw e) h.0 (rw (h.1, s)) (λ u. as-there (p ++ (b ∷ u)) ∙ f u)

-- a first byte that no choice has
pub no_tag :
    {Y C : Type 0} {w : Y → List ℕ} {g : Y → Type 0} {r : List ℕ → Read C} (some : Y) → g some → (b : ℕ) (bs : List ℕ)
    → ((z : List ℕ) → r (b ∷ z) ≡ stuck (suc (length z))) → Seen w g r (b ∷ bs)
no_tag {w} some good b bs f = wrong [] b bs some (w some) refl good refl f

-- no bytes where a choice is due
pub no_byte : {Y C : Type 0} {w : Y → List ℕ} {g : Y → Type 0} {r : List ℕ → Read C} (some : Y) → g some → r [] ≡ stuck 0 → Seen w g r []
no_byte {w} some good e = short some (w some) good refl e
