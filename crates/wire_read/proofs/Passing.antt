-- Entries one after the other: where the pass over them stands, and the first of them and the rest.
use Rattle.std.proofs.Common.{◌≡◌, ℕ, zero, suc, ◌-◌, ◌<◌, true, false, List, [], ◌∷◌, length, refl, sym, ap, arith}
use Rattle.std.proofs.lemmas.Bool.{both_ways}
use Rattle.servers.specs.Server.{Entry}
use Rattle.wire.specs.Read.{Read, got, stuck, and_then, read_entry, read_entries}
use Rattle.wire_read.specs.Got.{list_read, is_got}

-- how far it came, whatever was read
abbrev pub passed : {A : Type 0} → Read A → Read (Unit {0})
passed (got a r) = got tt r
passed (stuck k) = stuck k

got_passed : (x : Read (List Entry)) (e : Entry) → passed (and_then x (λ es z. got (e ∷ es) z)) ≡ passed x
got_passed (got es z) e = refl
got_passed (stuck k) e = refl

got_first : {A B : Type 0} (x : Read A) (f : A → List ℕ → Read B) → is_got (and_then x f) ≡ true → is_got x ≡ true
got_first (got a r) f p = refl
got_first (stuck k) f p = p

got_list : (x : Read (List Entry)) (e : Entry) → is_got x ≡ true → list_read (and_then x (λ es z. got (e ∷ es) z)) ≡ e ∷ list_read x
got_list (got es r) e p = refl
got_list (stuck k) e p = absurd (both_ways false refl p)

counted :
    (n : ℕ) (x : Read Entry)
    → is_got (and_then x (λ e r. and_then (read_entries n r) (λ es z. got (e ∷ es) z))) ≡ true
    → ((r : List ℕ) → is_got (read_entries n r) ≡ true → length (list_read (read_entries n r)) ≡ n)
    → length (list_read (and_then x (λ e r. and_then (read_entries n r) (λ es z. got (e ∷ es) z)))) ≡ suc n
counted n (got e r) p f =
    let q = got_first (read_entries n r) (λ es z. got (e ∷ es) z) p in
    rw (got_list (read_entries n r) e q) (ap suc (f r q))
counted n (stuck k) p f = absurd (both_ways false refl p)

-- one more entry was passed
pub passed_more :
    (n : ℕ) (d r : List ℕ) (e : Entry) → 0 < n
    → read_entry d ≡ got e r
    → passed (read_entries n d) ≡ passed (read_entries (n - 1) r)
unfolding read_entries
passed_more zero d r e h p = absurd (omega arith)
passed_more (suc n) d r e h p =
    let k : suc n - 1 ≡ n = omega arith in
    rw (p, k) (got_passed (read_entries n r) e)

-- an entry was refused
pub passed_refused : (n k : ℕ) (d : List ℕ) → 0 < n → read_entry d ≡ stuck k → passed (read_entries n d) ≡ stuck k
unfolding read_entries
passed_refused zero k d h p = absurd (omega arith)
passed_refused (suc n) k d h p = rw p refl

from_passed_got : (x : Read (List Entry)) (r : List ℕ) → passed x ≡ got tt r → (x ≡ got (list_read x) r) × (is_got x ≡ true)
from_passed_got (got es z) r p = (cc, refl)
from_passed_got (stuck k) r p = absurd (let y : ◌≡◌ {A = ℕ} 0 1 = cc in omega arith)

-- none is left: all were read
pub passed_all :
    (n : ℕ) (r : List ℕ) (x : Read (List Entry)) → n ≡ 0
    → passed (read_entries n r) ≡ passed x
    → (x ≡ got (list_read x) r) × (is_got x ≡ true)
unfolding read_entries
passed_all n r x e p = let q = rw e at p in from_passed_got x r (sym q)

pub from_passed_stuck : (x : Read (List Entry)) (k : ℕ) → passed x ≡ stuck k → x ≡ stuck k
from_passed_stuck (got es z) k p = absurd (let y : ◌≡◌ {A = ℕ} 0 1 = cc in omega arith)
from_passed_stuck (stuck j) k p = cc

-- entries that are there: the first, and the rest after it
pub first_there : (n : ℕ) (d : List ℕ) → 0 < n → is_got (read_entries n d) ≡ true → is_got (read_entry d) ≡ true
unfolding read_entries
first_there zero d h p = absurd (omega arith)
first_there (suc n) d h p = got_first (read_entry d) _ p

pub rest_there :
    (n : ℕ) (d r : List ℕ) (e : Entry) → 0 < n
    → read_entry d ≡ got e r
    → is_got (read_entries n d) ≡ true
    → is_got (read_entries (n - 1) r) ≡ true
unfolding read_entries
rest_there zero d r e h q p = absurd (omega arith)
rest_there (suc n) d r e h q p =
    let k : suc n - 1 ≡ n = omega arith in
    let z = rw q at p in
    rw k (got_first (read_entries n r) _ z)

pub entries_more :
    (n : ℕ) (d r : List ℕ) (e : Entry) → 0 < n
    → read_entry d ≡ got e r
    → is_got (read_entries n d) ≡ true
    → list_read (read_entries n d) ≡ e ∷ list_read (read_entries (n - 1) r)
unfolding read_entries
entries_more zero d r e h q p = absurd (omega arith)
entries_more (suc n) d r e h q p =
    let k : suc n - 1 ≡ n = omega arith in
    let z = rw q at p in
    rw (q, k) (got_list (read_entries n r) e (got_first (read_entries n r) _ z))

-- there are as many as were counted
pub entries_length : (n : ℕ) (d : List ℕ) → is_got (read_entries n d) ≡ true → length (list_read (read_entries n d)) ≡ n
unfolding read_entries
entries_length zero d p = refl
entries_length (suc n) d p = counted n (read_entry d) p (λ r q. entries_length n r q)

pub no_entries : (n : ℕ) (d : List ℕ) → n ≡ 0 → list_read (read_entries n d) ≡ []
unfolding read_entries
no_entries n d e = rw e refl
