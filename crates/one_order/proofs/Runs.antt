-- RUNS: the worlds that a good group of servers of a right program can get to. What the proof says of such a world it says by
-- induction on what happened (`runs_by`), or on what happened since an earlier one (`later_by`).
use Rattle.std.proofs.Common.{◌≡◌, ℕ, Bool, List, [], ◌∷◌, refl, arith}
use Rattle.servers.specs.Server.{Event, answer}
use Rattle.servers.specs.World.{Program, Group, limits, Happening, World, new_world, says_now, happens, Lived}
use Rattle.servers.specs.Promise.{readable_world, GoodGroup, Right, at_server}
use Rattle.safety.specs.Safety.{Until}
use Rattle.safety.proofs.Induction.{Step, worlds_by, answers, WorldOf, earlier_world}
use Rattle.one_order.specs.Order.{Later}

-- world w is one that a good group of servers of the right program f can get to
pub record Run (f : Program) (g : Group) (w : World) : Type 0 where
  pub can : ℕ → Bool
  pub right : Right can f
  pub group : GoodGroup can g
  pub lived : Lived f g w
  pub fine : readable_world w

-- event e happens at server i in world w
pub record Moment (f : Program) (g : Group) (w : World) (i : ℕ) (e : Event) : Type 0 where
  pub old : Run f g w
  pub new : Run f g (happens f g w i e)
  pub step : Step f g w i e

-- the server answers as the definitions say
pub says_so : {f : Program} {g : Group} {w : World} {i : ℕ} {e : Event} → Moment f g w i e
    → says_now f g w i e ≡ answer (limits g i) (at_server g w i) e
says_so {f} {g} {w} {i} {e} m = answers m.old.right m.old.group w i e m.step

-- one more happening makes a later world
abbrev pub one_later : (f : Program) (g : Group) (w : World) (i : ℕ) (e : Event) → Later w (happens f g w i e)
one_later f g w i e = (_ ∷ [], refl)

module _ {f : Program} {g : Group} where
  -- INDUCTION: what holds of the new world, and is kept by whatever happens, holds of every run.
  pub runs_by : (P : World → Type 0) → P new_world
      → ((w : World) (i : ℕ) (e : Event) → Moment f g w i e → P w → P (happens f g w i e)) → {w : World} → Run f g w → P w
  runs_by P first next r =
      worlds_by f g P first
      (λ w i e s. next w i e
      (record { old = with_right s.lived s.fine; new = with_right s.lived_after s.fine_after; step = s }))
      r.lived r.fine
    where
      with_right : {x : World} → Lived f g x → readable_world x → Run f g x
      with_right lived fine = record { can = r.can; right = r.right; group = r.group; lived = lived; fine = fine }

  -- and what holds between a world and itself, and is kept by whatever happens, holds between a world and every later one.
  pub later_by : (R : World → World → Type 0) → ((w w' : World) → w'.past ≡ w.past → R w w')
      → ((w x : World) (i : ℕ) (e : Event) → Moment f g x i e → R w x → R w (happens f g x i e))
      → {w' : World} → Run f g w' → (w : World) → Later w w' → R w w'
  later_by R same next = runs_by (λ w'. (w : World) → Later w w' → R w w') first later
    where
      first : (w : World) → Later w new_world → R w new_world
      first w ([], q) = same w new_world q
      first w (h ∷ since, q) = let z : ◌≡◌ {A = ℕ} 0 1 = cc in absurd (omega arith)

      later : (x : World) (i : ℕ) (e : Event) → Moment f g x i e → ((w : World) → Later w x → R w x)
          → (w : World) → Later w (happens f g x i e) → R w (happens f g x i e)
      later x i e m holds w ([], q) = same w (happens f g x i e) q
      later x i e m holds w (h ∷ since, q) = next w x i e m (holds w (since, cc))

  -- EARLIER: what happened until some moment is all that happened in some run.
  pub world_then : {w : World} → Run f g w → (m : List Happening) → Until m w.past → WorldOf f g m
  world_then r m u = earlier_world r.lived r.fine m u

  pub run_then : {w : World} {m : List Happening} → Run f g w → (x : WorldOf f g m) → Run f g x.world
  run_then r x = record { can = r.can; right = r.right; group = r.group; lived = x.lived; fine = x.fine }
