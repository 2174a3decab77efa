-- Letters to all others, one after the other.
use Rattle.std.proofs.Common.{◌≡◌, ℕ, zero, suc, ◌+◌, ◌-◌, ◌*◌, ◌<◌, ◌≤◌, Bool, eqb, ◌≢◌, List, [], ◌∷◌, ◌++◌, length, sym, refl, ap, ◌∙◌, inl, inr, suc-mul, arith}
use Rattle.std.proofs.lemmas.List.{append_assoc, append-nil, length-append}
use Rattle.std.proofs.lemmas.Bool.{cases_eq, cases_lt, eq-eqb, ne_eqb}
use Rattle.servers.specs.Store.{pick}
use Rattle.servers.specs.Server.{Message, Letter, to_others}
use Rattle.wire.specs.Write.{write_letter, write_letters}
use Rattle.wire_write.specs.Put.{Room, Wrote}
use Rattle.wire_write.specs.declared.writer.Writer.{Writer}
use Rattle.wire_write.proofs.Putting.{wrote_as, wrote_none, wrote_then}
use Rattle.sending.specs.Letters.{post}

pub letters_append : (xs ys : List Letter) → write_letters (xs ++ ys) ≡ write_letters xs ++ write_letters ys
unfolding write_letters
letters_append [] ys = refl
letters_append (x ∷ xs) ys = rw (letters_append xs ys) (sym (append_assoc (write_letter x) (write_letters xs) (write_letters ys)))

-- the bytes of the letters to the first n servers, but for m
abbrev pub sent_bytes : ℕ → ℕ → (ℕ → Message) → List ℕ
sent_bytes n m f = write_letters (to_others n m f)

pub sent_start : (v : Writer) (m : ℕ) (f : ℕ → Message) → Room 0 v → Wrote (sent_bytes 0 m f) v v
unfolding to_others write_letters
sent_start v m f h = wrote_none v h

-- one server more
sent_step :
    (n m : ℕ) (f : ℕ → Message)
    → sent_bytes (n + 1) m f ≡ sent_bytes n m f ++ write_letters (pick (eqb n m) [] (record { to = n; message = f n } ∷ []))
unfolding to_others
sent_step n m f =
    let z : n + 1 ≡ suc n = omega arith in
    rw z (letters_append (to_others n m f) (pick (eqb n m) [] (record { to = n; message = f n } ∷ [])))

pub sent_more : (n m : ℕ) (f : ℕ → Message) → n ≢ m → sent_bytes n m f ++ post n (f n) ≡ sent_bytes (n + 1) m f
unfolding write_letters
sent_more n m f h =
    sym (sent_step n m f
    ∙ (ap (λ (b : Bool). sent_bytes n m f ++ write_letters (pick b [] (record { to = n; message = f n } ∷ []))) (ne_eqb n m h)
    ∙ ap (λ (z : List ℕ). sent_bytes n m f ++ z) (append-nil (post n (f n)))))

sent_none : (n m : ℕ) (f : ℕ → Message) → n ≡ m → sent_bytes n m f ≡ sent_bytes (n + 1) m f
unfolding write_letters
sent_none n m f h =
    sym (sent_step n m f
    ∙ (ap (λ (b : Bool). sent_bytes n m f ++ write_letters (pick b [] (record { to = n; message = f n } ∷ []))) (eq-eqb n m h)
    ∙ append-nil (sent_bytes n m f)))

-- a writer's promise with one letter more, and with none for the server itself
pub sent_on :
    {u v w : Writer} (h m : ℕ) (f : ℕ → Message) → h ≢ m → Wrote (sent_bytes h m f) u v → Wrote (post h (f h)) v w
    → Wrote (sent_bytes (h + 1) m f) u w
sent_on h m f q a b = wrote_as (sent_more h m f q) (wrote_then a b)

pub sent_past : {u v : Writer} (h m : ℕ) (f : ℕ → Message) → h ≡ m → Wrote (sent_bytes h m f) u v → Wrote (sent_bytes (h + 1) m f) u v
sent_past h m f q a = wrote_as (sent_none h m f q) a

-- the same by another name
pub same_end : {bs : List ℕ} {u v w : Writer} → w ≡ v → Wrote bs u v → Wrote bs u w
same_end e a = rw e a

-- those to fewer are no longer
pub sent_fewer : (n k m : ℕ) (f : ℕ → Message) → n ≤ k → length (sent_bytes n m f) ≤ length (sent_bytes k m f)
sent_fewer n zero m f h = let e : n ≡ 0 = omega arith in rw e (omega arith)
sent_fewer n (suc k) m f h =
    elim (cases_lt k n) [
      | inl q ↦ let e : n ≡ suc k = omega arith in rw e (omega arith)
      | inr q ↦
          let ih = sent_fewer n k m f q in
          let z : k + 1 ≡ suc k = omega arith in
          let e = ap length (sent_step k m f) in
          let l = length-append (sent_bytes k m f) (write_letters (pick (eqb k m) [] (record { to = k; message = f k } ∷ []))) in
          rw (← z) (omega arith)
    ]

-- how many letters
count_more : (n m : ℕ) (f : ℕ → Message) → n ≢ m → length (to_others (suc n) m f) ≡ suc (length (to_others n m f))
unfolding to_others
count_more n m f h =
    let l = length-append (to_others n m f) (record { to = n; message = f n } ∷ []) in
    rw (ne_eqb n m h) (omega arith)

count_same : (n m : ℕ) (f : ℕ → Message) → n ≡ m → length (to_others (suc n) m f) ≡ length (to_others n m f)
unfolding to_others
count_same n m f h = rw (eq-eqb n m h, append-nil (to_others n m f)) refl

all_of : (n m : ℕ) (f : ℕ → Message) → n ≤ m → length (to_others n m f) ≡ n
unfolding to_others
all_of zero m f h = refl
all_of (suc n) m f h = count_more n m f (λ z. omega arith) ∙ ap suc (all_of n m f (omega arith))

pub how_many : (n m : ℕ) (f : ℕ → Message) → m < n → n - 1 ≡ length (to_others n m f)
how_many zero m f h = absurd (omega arith)
how_many (suc n) m f h =
    elim (cases_eq n m) [
      | inl q ↦ let a = all_of n m f (omega arith) in let b = count_same n m f q in omega arith
      | inr q ↦ let ih = how_many n m f (omega arith) in let b = count_more n m f q in omega arith
    ]

-- none longer than k
pub sent_most :
    (n m k : ℕ) (f : ℕ → Message) → ((h : ℕ) → length (post h (f h)) ≤ k) → length (sent_bytes n m f) ≤ length (to_others n m f) * k
unfolding to_others write_letters
sent_most zero m k f g = omega arith
sent_most (suc n) m k f g =
    let z : n + 1 ≡ suc n = omega arith in
    let ih = sent_most n m k f g in
    elim (cases_eq n m) [
      | inl q ↦
          let a = ap length (sent_none n m f q ∙ ap (λ (j : ℕ). sent_bytes j m f) z) in
          rw (count_same n m f q) (omega arith)
      | inr q ↦
          let a = ap length (sent_more n m f q ∙ ap (λ (j : ℕ). sent_bytes j m f) z) in
          let b = length-append (sent_bytes n m f) (post n (f n)) in
          let d = g n in
          let p = suc-mul (length (to_others n m f)) k in
          rw (count_more n m f q) (omega arith)
    ]
