-- REAL TIME: what was told before something else was asked comes before it in the order. At the moment when the first had been told and
-- the second not yet asked, the order had the first and not the second; and the order only grows.
use Rattle.std.proofs.Common.{◌≡◌, ℕ, true, false, not, ◌&&◌, ◌⊎◌, List, [], ◌∷◌, ◌++◌, sym, refl, ap, ◌∙◌, inl, inr}
use Rattle.servers.specs.World.{Program, Group, Happening, World}
use Rattle.servers.specs.World.{was_told, was_asked, before, there, earlier}
use Rattle.std.proofs.lemmas.Bool.{cases_Bool, and_parts, false≢true, both_ways, not-true, or_cases}
use Rattle.one_order.specs.Order.{linearization}
use Rattle.one_order.proofs.Sequences.{new_is_later}
use Rattle.one_order.proofs.Runs.{Run, world_then, run_then}
use Rattle.one_order.proofs.Committed.{only_grows}
use Rattle.one_order.proofs.Asked.{in_order_asked}
use Rattle.one_order.proofs.Told.{was_told_there}

-- the moment when the first had been told and the second had not been asked
record Between (past : List Happening) (c k d j : ℕ) : Type 0 where
  pub since : List Happening
  pub then : List Happening
  pub splits : past ≡ since ++ then
  pub told : was_told then c k ≡ true
  pub not_asked : was_asked then d j ≡ false

between : (past : List Happening) (c k d j : ℕ) → before past c k d j ≡ true → Between past c k d j
unfolding before
between [] c k d j q = absurd (false≢true q)
between (h ∷ hs) c k d j q =
    go (or_cases (was_told (h ∷ hs) c k && not (was_asked (h ∷ hs) d j)) (before hs c k d j) q) (between hs c k d j)
  where
    go : ((was_told (h ∷ hs) c k && not (was_asked (h ∷ hs) d j)) ≡ true) ⊎ (before hs c k d j ≡ true)
        → (before hs c k d j ≡ true → Between hs c k d j) → Between (h ∷ hs) c k d j
    go (inl p) ih =
        let a = and_parts (was_told (h ∷ hs) c k) (not (was_asked (h ∷ hs) d j)) p in
        record { since = []; then = h ∷ hs; splits = refl; told = a.0; not_asked = not-true _ a.1 }
    go (inr p) ih =
        let b = ih p in
        record {
          since = h ∷ b.since;
          then = b.then;
          splits = ap (λ y. h ∷ y) b.splits;
          told = b.told;
          not_asked = b.not_asked;
        }

-- what wasn't asked is not in the order
not_asked_not_there : {f : Program} {g : Group} {w : World} → Run f g w → (c k : ℕ) → was_asked w.past c k ≡ false
    → there (linearization g w) c k ≡ false
not_asked_not_there {f} {g} {w} r c k q =
    elim (cases_Bool (there (linearization g w) c k)) [ inl t ↦ absurd (both_ways _ q (in_order_asked r c k t)) | inr t ↦ t ]

-- What was told before something else was asked comes before it.
pub in_real_time : {f : Program} {g : Group} {w : World} → Run f g w → (c k d j : ℕ) → before w.past c k d j ≡ true
    → there (linearization g w) d j ≡ true → earlier (linearization g w) c k d j ≡ true
in_real_time {f} {g} {w} r c k d j q t =
    let b = between w.past c k d j q in
    let x = world_then r b.then (b.since, b.splits) in
    let old = run_then r x in
    let grown = only_grows r x.world (b.since, b.splits ∙ ap (λ y. b.since ++ y) (sym x.is)) in
    new_is_later (linearization g w) (linearization g x.world) c k d j grown
    (was_told_there old c k (rw x.is b.told)) (not_asked_not_there old d j (rw x.is b.not_asked)) t
