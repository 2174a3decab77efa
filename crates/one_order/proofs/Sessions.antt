-- SESSIONS: what one server that does an order remembers of each client. A command is done only if its number is higher than the one
-- that the session remembers; so the numbers of a client rise along the order, and each command stands in it once.
use Rattle.std.proofs.Common.{◌≡◌, ℕ, suc, ◌<◌, ◌≤◌, true, false, not, ◌&&◌, ◌||◌, eqb, ◌⊎◌, List, [], ◌∷◌, ◌++◌, refl, inl, inr, arith}
use Rattle.servers.specs.Store.{pick, reply}
use Rattle.servers.specs.Server.{Cached}
use Rattle.servers.specs.World.{Asked, store_after, reply_in, there, each_once}
use Rattle.std.proofs.lemmas.Bool.{cases_Bool, and_from, false≢true, both_ways, not-true, not_from_false, or_cases, eqb-true}
use Rattle.std.proofs.lemmas.Bool.Decides.{nat_tests}
use Rattle.servers.proofs.Tests.{bool_by}
use Rattle.one_order.specs.Order.{remembered, session, new_to, times}
use Rattle.one_order.proofs.Sequences.{is, is_same}

-- What a session remembers is what the client was told last.
pub session_told : (os : List Asked) (c : ℕ) → (session os c).there ≡ true
    → reply_in os c (session os c).id ≡ (session os c).reply ∷ []
unfolding session reply_in
session_told [] c = λ h. absurd (false≢true h)
session_told (o ∷ os) c =
    bool_by
    (λ z. (let x : Cached = pick z (remembered o (store_after os)) (session os c) in
    x.there ≡ true
    → pick (z && eqb x.id o.id) (reply o.command (store_after os) ∷ []) (reply_in os c x.id) ≡ x.reply ∷ []))
    (eqb c o.client) (λ q h. grind (arith, nat_tests)) (λ q h. session_told os c h)

-- each command of an order was new to its client's session when it was done
abbrev pub Rises : List Asked → Type 0
Rises [] = Unit {0}
Rises (o ∷ os) = (new_to (session os o.client) o.id ≡ true) × Rises os

pub rises_below : (more os : List Asked) → Rises (more ++ os) → Rises os
rises_below [] os r = r
rises_below (o ∷ more) os r = rises_below more os r.1

new_above : (x : Cached) (j k : ℕ) → new_to x k ≡ true → (x.there ≡ true) × (j ≤ x.id) → j < k
new_above x j k f a =
    elim (or_cases _ _ f) [
      | inl y ↦ absurd (both_ways _ (not-true _ y) a.0)
      | inr y ↦ (let b = a.1 in let z : x.id < k = grind (arith, nat_tests) in omega arith)
    ]

-- Then a session remembers the highest of its client's numbers.
pub session_highest : (os : List Asked) → Rises os → (c k : ℕ) → there os c k ≡ true
    → ((session os c).there ≡ true) × (k ≤ (session os c).id)
unfolding there session
session_highest [] r c k = λ t. absurd (false≢true t)
session_highest (o ∷ os) r c k =
    let ih = session_highest os r.1 in
    bool_by
    (λ z. (let x : Cached = pick z (remembered o (store_after os)) (session os c) in
    eqb c o.client ≡ z → ((z && eqb k o.id) || there os c k) ≡ true → (x.there ≡ true) × (k ≤ x.id))) (eqb c o.client)
    (λ q p h. (refl, own (ih o.client k) (eqb-true _ _ p) (or_cases _ _ h))) (λ q p h. ih c k h) refl
  where
    own : (there os o.client k ≡ true → ((session os o.client).there ≡ true) × (k ≤ (session os o.client).id))
        → c ≡ o.client → (eqb k o.id ≡ true) ⊎ (there os c k ≡ true) → k ≤ o.id
    own ih p (inl q) = let z = eqb-true _ _ q in omega arith
    own ih p (inr q) = let z = new_above (session os o.client) k o.id r.0 (ih (rw p at q)) in omega arith

-- So a number that is new to the session is higher than all of its client's in the order.
pub new_is_higher : (os : List Asked) → Rises os → (c j k : ℕ) → new_to (session os c) k ≡ true → there os c j ≡ true → j < k
new_is_higher os r c j k f t = new_above (session os c) j k f (session_highest os r c j t)

new_not_there : (o : Asked) (os : List Asked) → Rises (o ∷ os) → there os o.client o.id ≡ false
new_not_there o os r =
    elim (cases_Bool (there os o.client o.id)) [
      | inl t ↦ (let z = new_is_higher os r.1 o.client o.id o.id r.0 t in absurd (omega arith))
      | inr t ↦ t
    ]

-- Each command stands in the order once.
pub rises_once : (os : List Asked) → Rises os → each_once os ≡ true
unfolding each_once
rises_once [] r = refl
rises_once (o ∷ os) r =
    and_from (not (there os o.client o.id)) (each_once os) (not_from_false _ (new_not_there o os r)) (rises_once os r.1)

-- The same by counting.
not_there_times : (os : List Asked) (c k : ℕ) → there os c k ≡ false → times os c k ≡ 0
unfolding there times
not_there_times [] c k = λ h. refl
not_there_times (o ∷ os) c k =
    bool_by (λ z. (z || there os c k) ≡ false → pick z (suc (times os c k)) (times os c k) ≡ 0) (is o c k)
    (λ q h. absurd (both_ways _ h refl)) (λ q h. not_there_times os c k h)

pub rises_times : (os : List Asked) → Rises os → (c k : ℕ) → times os c k ≤ 1
unfolding times
rises_times [] r c k = omega arith
rises_times (o ∷ os) r c k =
    bool_by (λ z. is o c k ≡ z → pick z (suc (times os c k)) (times os c k) ≤ 1) (is o c k)
    (λ q p. one (is_same o c k p)) (λ q p. rises_times os r.1 c k) refl
  where
    one : (c ≡ o.client) × (k ≡ o.id) → suc (times os c k) ≤ 1
    one same =
        let h : there os c k ≡ false = rw (same.0, same.1) (new_not_there o os r) in
        let z = not_there_times os c k h in omega arith
