-- Bytes, numbers, texts, texts or none, booleans: their codecs.
use Rattle.std.proofs.Common.{◌≡◌, ℕ, zero, suc, ◌+◌, ◌-◌, ◌*◌, ◌/◌, ◌%◌, ◌^◌, ◌<◌, ◌≤◌, Bool, true, false, ltb, List, [], ◌∷◌, ◌++◌, length, take, drop, replicate, sym, refl, ap, ◌∙◌, subst, ⊎_elim, pow-suc, arith}
use native.Mathlib.Nat.{pow-zero}
use Rattle.std.proofs.lemmas.List.{length-append, length-replicate, take_at, drop_at, take-append-drop, length-take-le}
use Rattle.std.proofs.lemmas.Bool.{and_parts, and_from, cases_lt, lt-ltb, le-ltb, ltb-true}
use Rattle.std.proofs.lemmas.Bool.Decides.{nat_tests}
use Rattle.servers.specs.Store.{pick, Perhaps}
use Rattle.servers.specs.Promise.{all_below, bytes, eight}
use Rattle.wire.specs.Read.{Read, got, stuck, and_then, number_of, read_byte, read_number, read_bytes, read_text, read_bool}
use Rattle.wire.specs.Read.{read_perhaps}
use Rattle.wire.specs.Write.{bytes_of, write_number, write_text, write_bool, write_perhaps}
use Rattle.wire.proofs.Codecs.{bytes_append, Codec, Seen, whole, short, same, last, recode, counted, tag, no_tag, no_byte}

pub bytes_first : (a b : List ℕ) → bytes (a ++ b) ≡ true → bytes a ≡ true
unfolding all_below
bytes_first [] b p = refl
bytes_first (x ∷ a) b p =
    let h = and_parts (ltb x 256) (bytes (a ++ b)) p in
    and_from (ltb x 256) (bytes a) h.0 (bytes_first a b h.1)

bytes_zeros : (n : ℕ) → bytes (replicate n 0) ≡ true
unfolding all_below
bytes_zeros zero = refl
bytes_zeros (suc n) = bytes_zeros n

-- so many bytes, and what is made of them
abbrev SoMany : ℕ → List ℕ → Type 0
SoMany n t = (bytes t ≡ true) × (length t ≡ n)

abbrev read_so_many : {C : Type 0} → ℕ → (List ℕ → C) → List ℕ → Read C
read_so_many n f bs = pick (ltb (length bs) n) (stuck 0) (got (f (take n bs)) (drop n bs))

fixed : {C : Type 0} (n : ℕ) (f : List ℕ → C) → Codec f same (SoMany n) (read_so_many n f)
fixed n f =
    record {
      some = replicate n 0;
      good = (bytes_zeros n, length-replicate n 0);
      low = λ t q. q.0;
      back = λ t rest q.
          let l = length-append t rest in
          rw (le-ltb (length (t ++ rest)) n (omega arith), take_at t rest n q.1, drop_at t rest n q.1);
      seen = λ bs q. ⊎_elim (few bs q) (enough bs q) (cases_lt (length bs) n);
    }
  where
    few : (bs : List ℕ) → bytes bs ≡ true → length bs < n → Seen same (SoMany n) (read_so_many n f) bs
    few bs q l =
        let z : List ℕ = replicate (n - length bs) 0 in
        short (bs ++ z) z (bytes_append bs z q (bytes_zeros (n - length bs)), simp (length-append, length-replicate) (omega arith)) refl
        (rw (lt-ltb (length bs) n l))

    enough : (bs : List ℕ) → bytes bs ≡ true → n ≤ length bs → Seen same (SoMany n) (read_so_many n f) bs
    enough bs q l =
        let e = take-append-drop n bs in
        whole (take n bs) (drop n bs) (bytes_first (take n bs) (drop n bs) (rw e q), length-take-le n bs l) (sym e)

-- a number of n bytes
pub number_bytes : (n x : ℕ) → x < 256 ^ n → number_of (bytes_of n x) ≡ x
number_bytes zero x h = let e = pow-zero 256 in omega arith
number_bytes (suc n) x h =
    let p = pow-suc 256 n in
    let e = number_bytes n (x / 256) (omega arith) in omega arith

pub bytes_number : (t : List ℕ) → bytes t ≡ true → bytes_of (length t) (number_of t) ≡ t
unfolding all_below
bytes_number [] q = refl
bytes_number (b ∷ t) q =
    let h = and_parts (ltb b 256) (bytes t) q in
    let l = ltb-true b 256 h.0 in
    let m : (b + 256 * number_of t) % 256 ≡ b = omega arith in
    let d : (b + 256 * number_of t) / 256 ≡ number_of t = omega arith in
    rw (m, d, bytes_number t h.1)

number_below : (t : List ℕ) → bytes t ≡ true → number_of t < 256 ^ length t
unfolding all_below
number_below [] q = let e = pow-zero 256 in omega arith
number_below (b ∷ t) q =
    let h = and_parts (ltb b 256) (bytes t) q in
    let l = ltb-true b 256 h.0 in
    let p = pow-suc 256 (length t) in
    let r = number_below t h.1 in omega arith

pub bytes_are : (n x : ℕ) → bytes (bytes_of n x) ≡ true
unfolding all_below
bytes_are zero x = refl
bytes_are (suc n) x = and_from (ltb (x % 256) 256) _ (lt-ltb (x % 256) 256 (omega arith)) (bytes_are n (x / 256))

pub length_bytes_of : (n x : ℕ) → length (bytes_of n x) ≡ n
length_bytes_of zero x = refl
length_bytes_of (suc n) x = ap suc (length_bytes_of n (x / 256))

abbrev pub Byte : ℕ → Type 0
Byte x = ltb x 256 ≡ true

abbrev pub Number : ℕ → Type 0
Number x = eight x ≡ true

abbrev pub Text : List ℕ → Type 0
Text t = (bytes t ≡ true) × (eight (length t) ≡ true)

pub byte : Codec same (λ x. x ∷ []) Byte read_byte
unfolding all_below
byte = record { some = 0; good = refl; low = λ x q. and_from (ltb x 256) true q refl; back = λ x rest q. refl; seen = λ bs q. so bs q }
  where
    so : (bs : List ℕ) → bytes bs ≡ true → Seen (λ x. x ∷ []) Byte read_byte bs
    so [] q = short 0 (0 ∷ []) refl refl refl
    so (b ∷ bs) q = whole b bs (and_parts (ltb b 256) (bytes bs) q).0 refl

pub number : Codec same write_number Number read_number
unfolding read_number write_number
number =
    recode (fixed 8 number_of) number_of
    (λ t q. (
      lt-ltb (number_of t) _ (subst (λ n. number_of t < 256 ^ n) q.1 (number_below t q.0)),
      subst (λ n. bytes_of n (number_of t) ≡ t) q.1 (bytes_number t q.0),
    ))
    (bytes_of 8) (λ x q. ((bytes_are 8 x, length_bytes_of 8 x), refl, number_bytes 8 x (ltb-true x 18446744073709551616 q)))

pub text : Codec same write_text Text read_text
unfolding read_text read_bytes
text = counted number (λ n. fixed n same)

pub bool : Codec same write_bool (λ b. Unit {0}) read_bool
unfolding read_bool all_below
bool = record { some = false; good = tt; low = low; back = on; seen = so }
  where
    low : (b : Bool) → Unit {0} → bytes (write_bool b) ≡ true
    low false q = refl
    low true q = refl

    on : (b : Bool) (rest : List ℕ) → Unit {0} → read_bool (write_bool b ++ rest) ≡ got b rest
    on false rest q = refl
    on true rest q = refl

    so : (bs : List ℕ) → bytes bs ≡ true → Seen write_bool (λ b. Unit {0}) read_bool bs
    so [] q = no_byte false tt refl
    so (zero ∷ bs) q = whole false bs tt refl
    so (suc zero ∷ bs) q = whole true bs tt refl
    so (suc (suc b) ∷ bs) q = no_tag false tt (suc (suc b)) bs (λ z. grind (arith, nat_tests))

-- a text or none: of more than one, the first alone has bytes
abbrev pub MaybeText : Perhaps → Type 0
MaybeText [] = Unit {0}
MaybeText (t ∷ ts) = Text t × (ts ≡ [])

pub perhaps : Codec same write_perhaps MaybeText read_perhaps
unfolding read_perhaps all_below
perhaps = record { some = []; good = tt; low = low; back = on; seen = so }
  where
    one : Codec (λ t. t ∷ []) write_text Text (λ bs. and_then (read_text bs) (λ t r. got (t ∷ []) r))
    one = last text (λ t. t ∷ [])

    low : (x : Perhaps) → MaybeText x → bytes (write_perhaps x) ≡ true
    low [] q = refl
    low (t ∷ ts) q = one.low t q.0

    on : (x : Perhaps) (rest : List ℕ) → MaybeText x → read_perhaps (write_perhaps x ++ rest) ≡ got x rest
    on [] rest q = refl
    on (t ∷ ts) rest q = one.back t rest q.0 ∙ rw q.1

    so : (bs : List ℕ) → bytes bs ≡ true → Seen write_perhaps MaybeText read_perhaps bs
    so [] q = no_byte [] tt refl
    so (zero ∷ bs) q = whole [] bs tt refl
    so (suc zero ∷ bs) q = tag 1 one (λ z. refl) (λ t g. ((g, refl), refl)) bs q
    so (suc (suc b) ∷ bs) q = no_tag [] tt (suc (suc b)) bs (λ z. grind (arith, nat_tests))
