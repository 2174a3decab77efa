-- Entries one after the other: their fields and their row.
use Rattle.std.proofs.Common.{◌≡◌, ℕ, suc, ◌+◌, ◌-◌, Bool, true, false, ◌&&◌, eqb, ltb, leb, List, [], ◌∷◌, length, None, Some, sym, refl, ap, ◌∙◌, arith}
use Rattle.std.specs.Bool.{then_some}
use Rattle.std.specs.Range.{range_inclusive_len}
use mathlib.Core.Bool.{and_assoc, and-true}
use Rattle.std.proofs.lemmas.Option.{none-some, same_Some}
use Rattle.servers.specs.Server as server
use Rattle.servers.specs.Server.{short, clients_there, all_short_entries, terms_below, in_a_row, last_of_all}
use Rattle.wire_read.specs.Means.{entries_of}
use Rattle.wire_read.specs.declared.parts.Entries.{Entries}
use Rattle.wire_read.proofs.Passing.{entries_length}
use Rattle.checks.specs.Refusals.{good_entry, good_entries}

pub interchange : (x y z w : Bool) → ((x && y) && (z && w)) ≡ ((x && z) && (y && w))
interchange false y z w = refl
interchange true true z w = refl
interchange true false true w = refl
interchange true false false w = refl

-- the fields of one more
pub good_more :
    (l : server.Limits) (e : server.Entry) (es : List server.Entry) →
    good_entries l (e ∷ es) ≡ (good_entry l e && good_entries l es)
unfolding clients_there all_short_entries terms_below
good_more l e es =
    let a : Bool = ltb e.client l.clients && ltb e.at l.servers in
    let t : Bool = leb e.term last_of_all in
    ap (λ z. z && (t && terms_below es)) (interchange a (clients_there l es) (short e.command) (all_short_entries es))
    ∙ interchange (a && short e.command) (clients_there l es && all_short_entries es) t (terms_below es)

-- a turn of the pass: the entry passed, or was refused, or none is left
pub turn_passed :
    (l : server.Limits) (i n : ℕ) (w s : Bool) (e : server.Entry) (es xs : List server.Entry) → xs ≡ e ∷ es → n ≡ length xs →
    good_entry l e ≡ true → s ≡ eqb e.index (i + n) →
    then_some (good_entries l es) ((w && s) && in_a_row i es) ≡ then_some (good_entries l xs) (w && in_a_row i xs)
unfolding in_a_row
turn_passed l i n w s e es xs p q g h =
    let m : i + n ≡ suc (i + length es) = let k = ap length p in omega arith in
    rw (p, h, m, good_more l e es, g, and_assoc w (eqb e.index (suc (i + length es))) (in_a_row i es)) refl

pub turn_refused :
    (l : server.Limits) (w : Bool) (e : server.Entry) (es xs : List server.Entry) → xs ≡ e ∷ es → good_entry l e ≡ false →
    then_some (good_entries l xs) w ≡ None
turn_refused l w e es xs p g = rw (p, good_more l e es, g) refl

pub pass_none :
    (l : server.Limits) (i : ℕ) (w : Bool) (es : List server.Entry) → es ≡ [] →
    then_some (good_entries l es) (w && in_a_row i es) ≡ Some w
unfolding in_a_row clients_there all_short_entries terms_below
pass_none l i w es e = rw (e, and-true w) refl

-- what a check handed on, and what it refused
pub some_good : {V : Type 0} (b : Bool) (v w : V) → Some w ≡ then_some b v → (b ≡ true) × (w ≡ v)
some_good true v w p = (refl, same_Some w v p)
some_good false v w p = absurd (none-some w (sym p))

pub none_good : {V : Type 0} (b : Bool) (v : V) → None ≡ then_some b v → b ≡ false
none_good true v p = absurd (none-some v p)
none_good false v p = refl

-- there are as many as were counted
pub entries_long : (es : Entries) → length (entries_of es) ≡ es.count
entries_long es = entries_length es.count es.bytes.now es.there

-- the numbers from 1 to n, and the last of those that are left
pub numbers_left : (a b n : ℕ) {x : Bool} → a ≡ 1 → b ≡ n → x ≡ false → range_inclusive_len (λ c d. d - c) a b x ≡ n
numbers_left a b n p q e = rw (p, q, e) (omega arith)

pub last_number : (a b : ℕ) (x : Bool) {n : ℕ} → a ≡ 1 → range_inclusive_len (λ c d. d - c) a b x ≡ suc n → b ≡ suc n
last_number a b true p q = absurd (omega arith)
last_number a b false p q = omega arith
