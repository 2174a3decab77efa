-- STATE MACHINES: every server's store and sessions are those of its applied entries; what is applied stays, and is the same at every
-- server. It is so since what a server has applied is committed, and what is committed stays in its log.
use Rattle.std.proofs.Common.{◌≡◌, ℕ, ◌≤◌, List, [], ◌++◌, sym, ap, ◌∙◌, subst, arith}
use Rattle.servers.specs.Server.{Entry, State, Event, state, answer, up_to, above}
use Rattle.servers.specs.World.{Program, Group, limits, Happening, World, new_world, seen, says_now, happens}
use Rattle.servers.specs.Promise.{at_server}
use Rattle.safety.specs.Safety.{Until, at_moment}
use Rattle.safety.proofs.Logs.{Contiguous, up_to_all}
use Rattle.safety.proofs.Induction.{here, each_server}
use Rattle.one_order.specs.Order.{order, applied_order, Extends, Later}
use Rattle.one_order.proofs.Orders.{order_extends}
use Rattle.one_order.proofs.Applying.{made_by_none, ClientsBelow}
use Rattle.one_order.proofs.Due.{above_applied}
use Rattle.one_order.proofs.Events.{Applied, Tells, event_applies}
use Rattle.one_order.proofs.Runs.{Run, Moment, runs_by, later_by, says_so, one_later, world_then, run_then}
use Rattle.one_order.proofs.Agreement.{log_contiguous, agree_ever, commits_up, committed_stays}
use Rattle.one_order.proofs.Asked.{clients_below}

-- One happening: what `event_applies` asks of the log is so, since what is committed stays in it.

module _ {f : Program} {g : Group} {w : World} {i : ℕ} {e : Event} (m : Moment f g w i e)
    (was : Applied g.clients (at_server g w i)) where
  abbrev now : State
  now = at_server g (happens f g w i e) i

  pub applies_here : Applied g.clients now × Tells now (says_now f g w i e) × ((at_server g w i).applied ≤ now.applied)
  applies_here =
      let s : State = at_server g w i in
      subst (λ a. Applied g.clients now × Tells now a × (s.applied ≤ now.applied)) (sym (says_so m))
      (subst
      (λ (y : State). s.commit ≤ y.commit → Contiguous y.log → ClientsBelow g.clients y.log
      → up_to s.applied y.log ≡ up_to s.applied s.log
      → Applied g.clients y × Tells y (answer (limits g i) s e) × (s.applied ≤ y.applied))
      (sym (here f g w i e)) (event_applies g.clients (limits g i) s was e)
      (commits_up m.new w (one_later f g w i e) i) (log_contiguous m.new i) (clients_below m.new i)
      (sym (committed_stays m.new w (one_later f g w i e) i s.applied was.low)))

-- AT EVERY MOMENT

-- Every server's store and sessions are those of its applied entries.
pub servers_applied : {f : Program} {g : Group} {w : World} → Run f g w → (v : ℕ) → Applied g.clients (at_server g w v)
unfolding seen state order
servers_applied {f} {g} = runs_by (λ w. (v : ℕ) → Applied g.clients (at_server g w v)) first later
  where
    first : (v : ℕ) → Applied g.clients (at_server g new_world v)
    first v = record { low = omega arith; made = rw (up_to_all 0 [] (omega arith)) (made_by_none g.clients) }

    later : (w : World) (i : ℕ) (e : Event) → Moment f g w i e → ((v : ℕ) → Applied g.clients (at_server g w v))
        → (v : ℕ) → Applied g.clients (at_server g (happens f g w i e) v)
    later w i e m old =
        each_server f g w i e (λ v y. Applied g.clients y) (subst (Applied g.clients) (here f g w i e) (applies_here m (old i)).0)
        (λ v ne. old v)

-- and were so at every moment
pub applied_then : {f : Program} {g : Group} {w : World} → Run f g w → (a : List Happening) → Until a w.past → (v : ℕ)
    → Applied g.clients (at_moment g a v)
applied_then {f} {g} r a u v =
    let x = world_then r a u in subst (λ p. Applied g.clients (at_moment g p v)) x.is (servers_applied (run_then r x) v)

-- No two servers ever apply different entries at one index.
pub applied_agree : {f : Program} {g : Group} {w : World} → Run f g w → (a b : List Happening) → Until a w.past → Until b w.past
    → (u v n : ℕ) → n ≤ (at_moment g a u).applied → n ≤ (at_moment g b v).applied
    → up_to n (at_moment g a u).log ≡ up_to n (at_moment g b v).log
applied_agree r a b ua ub u v n p q =
    let x = (applied_then r a ua u).low in
    let y = (applied_then r b ub v).low in
    agree_ever r a b ua ub u v n (omega arith) (omega arith)

-- AS TIME GOES ON

module _ {f : Program} {g : Group} {w' : World} (r : Run f g w') (w : World) (later : Later w w') (v : ℕ) where
  -- no applied index falls
  pub applied_up : (at_server g w v).applied ≤ (at_server g w' v).applied
  applied_up =
      later_by (λ w w'. (v : ℕ) → (at_server g w v).applied ≤ (at_server g w' v).applied)
      (λ w w' q v. subst (λ p. (at_server g w v).applied ≤ (at_moment g p v).applied) (sym q) (omega arith))
      (λ w x i e m holds. each_server f g x i e (λ v y. (at_server g w v).applied ≤ y.applied)
      (subst (λ (y : State). (at_server g w i).applied ≤ y.applied) (here f g x i e)
      (let a = holds i in let b = (applies_here m (servers_applied m.old i)).2 in omega arith)) (λ v ne. holds v))
      r w later v

  -- what a server has applied stays in its place
  pub applied_stays : up_to (at_server g w v).applied (at_server g w v).log ≡ up_to (at_server g w v).applied (at_server g w' v).log
  applied_stays = committed_stays r w later v (at_server g w v).applied (applied_then r w.past later v).low

  -- so what it has done only grows
  pub applied_grows : Extends (applied_order (at_server g w' v)) (applied_order (at_server g w v))
  applied_grows =
      let s : State = at_server g w v in
      let t : State = at_server g w' v in
      let more : List Entry = above s.applied (up_to t.applied t.log) in
      let e : more ++ up_to s.applied s.log ≡ up_to t.applied t.log =
      ap (λ y. more ++ y) applied_stays ∙ above_applied s.applied t.applied t.log (log_contiguous r v) applied_up in
      subst (λ y. Extends (order y) (applied_order s)) e (order_extends more (up_to s.applied s.log))
