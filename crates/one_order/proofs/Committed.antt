-- WHAT IS COMMITTED in a world is one log: every server's log, up to its commit index, is the old end of it, and later worlds
-- only have entries on top. So the linearization order, which is read off it, only grows.
use Rattle.std.proofs.Common.{◌≡◌, ℕ, zero, suc, ◌<◌, ◌≤◌, ltb, ◌++◌, sym, ap, ◌∙◌, subst, inl, inr, arith}
use Rattle.servers.specs.Server.{State, up_to, above}
use Rattle.servers.specs.World.{Program, Group, World}
use Rattle.servers.specs.Promise.{at_server}
use Rattle.std.proofs.lemmas.Bool.{cases_eq, ltb-true, ltb-false}
use Rattle.servers.proofs.Tests.{pick_by}
use Rattle.safety.proofs.Logs.{contiguous_up_to, up_to_up_to, above_up_to}
use Rattle.one_order.specs.Order.{order, furthest, committed, linearization, Extends, Later}
use Rattle.one_order.proofs.Orders.{order_extends}
use Rattle.one_order.proofs.Runs.{Run}
use Rattle.one_order.proofs.Agreement.{log_contiguous, agree_now, commits_up, committed_stays}

-- THE SERVER THAT HAS COMMITTED FURTHEST

-- is one of them
furthest_below : (st : ℕ → State) (n : ℕ) → furthest st (suc n) < suc n
unfolding furthest
furthest_below st zero = pick_by (λ y. y < 1) (ltb (st 0).commit (st 0).commit) 0 0 (λ q. omega arith) (λ q. omega arith)
furthest_below st (suc n) =
    let ih = furthest_below st n in
    pick_by (λ y. y < suc (suc n)) (ltb (st (furthest st (suc n))).commit (st (suc n)).commit) (suc n) (furthest st (suc n))
    (λ q. omega arith) (λ q. omega arith)

-- and none of them has committed further
furthest_most : (st : ℕ → State) (n v : ℕ) → v < n → (st v).commit ≤ (st (furthest st n)).commit
unfolding furthest
furthest_most st zero v h = absurd (omega arith)
furthest_most st (suc n) v h =
    pick_by (λ y. (st v).commit ≤ (st y).commit) (ltb (st (furthest st n)).commit (st n).commit) n (furthest st n)
    (λ q. let lt = ltb-true _ _ q in
    elim (cases_eq v n) [ inl p ↦ rw p (omega arith) | inr ne ↦ (let ih = furthest_most st n v (omega arith) in omega arith) ])
    (λ q. let le = ltb-false _ _ q in elim (cases_eq v n) [ inl p ↦ rw p le | inr ne ↦ furthest_most st n v (omega arith) ])

abbrev ahead : Group → World → ℕ
ahead g w = furthest (at_server g w) g.servers

ahead_low : (g : Group) (w : World) → 2 ≤ g.servers → ahead g w < g.servers
ahead_low g w = some g.servers
  where
    some : (n : ℕ) → 2 ≤ n → furthest (at_server g w) n < n
    some zero h = absurd (omega arith)
    some (suc n) h = furthest_below (at_server g w) n

-- IN ONE WORLD

module _ {f : Program} {g : Group} {w : World} (r : Run f g w) where
  -- a server's log, as far as it is committed there, is the old end of what is committed
  committed_on_top : (v n : ℕ) → v < g.servers → n ≤ (at_server g w v).commit
      → committed g w ≡ above n (committed g w) ++ up_to n (at_server g w v).log
  unfolding committed
  committed_on_top v n low h =
      let a : State = at_server g w (ahead g w) in
      let far = furthest_most (at_server g w) g.servers v low in
      let row = contiguous_up_to a.commit a.log (log_contiguous r (ahead g w)) in
      let same : up_to n (committed g w) ≡ up_to n (at_server g w v).log =
      up_to_up_to n a.commit a.log (omega arith) ∙ agree_now r (ahead g w) v n (omega arith) h in
      sym (above_up_to n (committed g w) row) ∙ ap (λ y. above n (committed g w) ++ y) same

  -- The order of a server's committed entries is the old end of the linearization order.
  pub extends_server : (v n : ℕ) → v < g.servers → n ≤ (at_server g w v).commit
      → Extends (linearization g w) (order (up_to n (at_server g w v).log))
  unfolding linearization
  extends_server v n low h =
      subst (λ y. Extends (order y) (order (up_to n (at_server g w v).log))) (sym (committed_on_top v n low h))
      (order_extends (above n (committed g w)) (up_to n (at_server g w v).log))

-- AS TIME GOES ON: the order of a later world extends that of an earlier one. What the server that had committed furthest had committed
-- then is committed there still, in its place.
pub only_grows : {f : Program} {g : Group} {w' : World} → Run f g w' → (w : World) → Later w w'
    → Extends (linearization g w') (linearization g w)
unfolding linearization committed
only_grows {f} {g} {w'} r w later =
    let v : ℕ = ahead g w in
    let n : ℕ = (at_server g w v).commit in
    subst (λ y. Extends (linearization g w') (order y)) (sym (committed_stays r w later v n (omega arith)))
    (extends_server r v n (ahead_low g w r.group.0) (commits_up r w later v))
