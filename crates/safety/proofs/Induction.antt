-- LIVED WORLDS, one happening at a time. A lived world is the new one, or a lived world and one happening more (`worlds_by`); and what
-- happened until some moment is all that happened in some lived world (`earlier_world`). Nothing else asks what kinds of events there
-- are, or that the program is right (`answers`).
use Rattle.std.proofs.Common.{◌≡◌, ℕ, ◌<◌, Bool, true, false, eqb, List, [], ◌∷◌, sym, refl, subst, inl, inr, arith}
use Rattle.servers.specs.Store.{pick}
use Rattle.servers.specs.Server.{State, Message, Event, timeout, request, comes, restart, garbled, state, after, answer}
use Rattle.servers.specs.World.{Program, Group, limits, Happening, Sent, In, World, new_world, seen, says_now, happens, Lived, new}
use Rattle.servers.specs.World.{on_timeout, on_request, on_message, on_restart, on_garbled}
use Rattle.servers.specs.Promise.{readable, all_readable, GoodGroup, Right, readable_world, at_server}
use Rattle.std.proofs.lemmas.Bool.{and_parts, cases_eq, eq-eqb, ne_eqb, eqb-false}
use Rattle.safety.specs.Safety.{Until}
use Rattle.servers.proofs.Tests.{bool_by}

-- if the event is that a message comes to server i, it was sent to it
abbrev pub WasSent : ℕ → List Sent → Event → Type 0
WasSent i sent e = (h : ℕ) (m : Message) → e ≡ comes h m → In (record { by = h; letter = record { to = i; message = m } }) sent

no_message : (i : ℕ) (sent : List Sent) (e : Event) → ((h : ℕ) (m : Message) → e ≡ comes h m → ⊥) → WasSent i sent e
no_message i sent e none h m q = absurd (none h m q)

message : (x : Sent) (sent : List Sent) → In x sent → WasSent x.letter.to sent (comes x.by x.letter.message)
message x sent there h m q =
    let by : x.by ≡ h = cc in
    let what : x.letter.message ≡ m = cc in
    subst (λ y. In (record { by = y; letter = record { to = x.letter.to; message = m } }) sent) by
    (subst (λ y. In (record { by = x.by; letter = record { to = x.letter.to; message = y } }) sent) what there)

-- event e happens at server i in a lived world w
pub record Step (f : Program) (g : Group) (w : World) (i : ℕ) (e : Event) : Type 0 where
  pub low : i < g.servers
  pub lived : Lived f g w
  pub fine : readable_world w
  pub lived_after : Lived f g (happens f g w i e)
  pub fine_after : readable_world (happens f g w i e)
  pub sent : WasSent i w.sent e

-- what came before it was readable too
pub readable_before : (f : Program) (g : Group) (w : World) (i : ℕ) (e : Event) → readable_world (happens f g w i e) → readable_world w
unfolding readable_world seen all_readable
readable_before f g w i e fine v =
    bool_by (λ b. all_readable (pick b (e ∷ seen v w.past) (seen v w.past)) ≡ true → all_readable (seen v w.past) ≡ true)
    (eqb i v)
    (λ q h. (and_parts (readable e) (all_readable (seen v w.past)) h).1)
    (λ q h. h)
    (fine v)

-- INDUCTION: what holds of the new world, and is kept by whatever happens, holds of every lived world
module _ (f : Program) (g : Group) (P : World → Type 0) (first : P new_world)
    (next : (w : World) (i : ℕ) (e : Event) → Step f g w i e → P w → P (happens f g w i e)) where
  one_more : (w : World) (i : ℕ) (e : Event) → i < g.servers → Lived f g w → Lived f g (happens f g w i e)
      → readable_world (happens f g w i e) → WasSent i w.sent e → (readable_world w → P w) → P (happens f g w i e)
  one_more w i e low lived lived_after fine_after sent before =
      let fine = readable_before f g w i e fine_after in
      next w i e
      (record { low = low; lived = lived; fine = fine; lived_after = lived_after; fine_after = fine_after; sent = sent }) (before fine)

  pub worlds_by : {w : World} → Lived f g w → readable_world w → P w
  worlds_by new fine = first
  worlds_by (on_timeout {w} i lived low) fine =
      one_more w i timeout low lived (on_timeout i lived low) fine
      (no_message i w.sent timeout (λ h m q. let z : ◌≡◌ {A = ℕ} 0 1 = cc in omega arith)) (worlds_by lived)
  worlds_by (on_request {w} i c k x lived low) fine =
      one_more w i (request c k x) low lived (on_request i c k x lived low) fine
      (no_message i w.sent (request c k x) (λ h m q. let z : ◌≡◌ {A = ℕ} 0 1 = cc in omega arith)) (worlds_by lived)
  worlds_by (on_message {w} x lived there low) fine =
      one_more w x.letter.to (comes x.by x.letter.message) low lived (on_message x lived there low) fine
      (message x w.sent there) (worlds_by lived)
  worlds_by (on_restart {w} i lived low) fine =
      one_more w i restart low lived (on_restart i lived low) fine
      (no_message i w.sent restart (λ h m q. let z : ◌≡◌ {A = ℕ} 0 1 = cc in omega arith)) (worlds_by lived)
  worlds_by (on_garbled {w} i n lived low) fine =
      one_more w i (garbled n) low lived (on_garbled i n lived low) fine
      (no_message i w.sent (garbled n) (λ h m q. let z : ◌≡◌ {A = ℕ} 0 1 = cc in omega arith)) (worlds_by lived)

-- ONE HAPPENING: the servers afterwards
module _ (f : Program) (g : Group) (w : World) (i : ℕ) (e : Event) where
  pub here : at_server g (happens f g w i e) i ≡ after (limits g i) (at_server g w i) e
  unfolding seen state
  here = let z : eqb i i ≡ true = eq-eqb i i refl in rw z

  pub elsewhere : (v : ℕ) → (v ≡ i → ⊥) → at_server g (happens f g w i e) v ≡ at_server g w v
  unfolding seen
  elsewhere v ne = let z : eqb i v ≡ false = ne_eqb i v (λ p. ne (sym p)) in rw z

  -- of every server, if of the one where it happened, and of the others as they were
  pub each_server : (P : ℕ → State → Type 0) → P i (after (limits g i) (at_server g w i) e)
      → ((v : ℕ) → (v ≡ i → ⊥) → P v (at_server g w v)) → (v : ℕ) → P v (at_server g (happens f g w i e) v)
  each_server P a b v =
      elim (cases_eq v i) [
        | inl p ↦ subst (λ y. P y (at_server g (happens f g w i e) y)) (sym p) (subst (P i) (sym here) a)
        | inr ne ↦ subst (P v) (sym (elsewhere v ne)) (b v ne)
      ]

-- and what the server says, if the program is right: it answers as the definitions say
module _ {can : ℕ → Bool} {f : Program} {g : Group} (right : Right can f) (group : GoodGroup can g) (w : World) (i : ℕ) (e : Event)
    (step : Step f g w i e) where
  readable_here : all_readable (e ∷ seen i w.past) ≡ true
  unfolding readable_world seen
  readable_here =
      bool_by (λ b. eqb i i ≡ b → all_readable (pick b (e ∷ seen i w.past) (seen i w.past)) ≡ true
      → all_readable (e ∷ seen i w.past) ≡ true) (eqb i i)
      (λ q p h. h)
      (λ q p h. absurd (eqb-false i i q refl))
      refl (step.fine_after i)

  pub answers : says_now f g w i e ≡ answer (limits g i) (at_server g w i) e
  unfolding Right
  answers =
      right (limits g i) (seen i w.past) e
      (group.0, group.1, step.low, group.2, group.3, group.4, group.5, group.6) readable_here

-- EARLIER WORLDS: what happened until some moment is all that happened in some lived world
pub record WorldOf (f : Program) (g : Group) (m : List Happening) : Type 0 where
  pub world : World
  pub is : world.past ≡ m
  pub lived : Lived f g world
  pub fine : readable_world world

new_fine : readable_world new_world
unfolding readable_world seen all_readable
new_fine i = refl

pub earlier_world : {f : Program} {g : Group} {w : World} → Lived f g w → readable_world w
    → (m : List Happening) → Until m w.past → WorldOf f g m
earlier_world {f} {g} = worlds_by f g (λ w. (m : List Happening) → Until m w.past → WorldOf f g m) first later
  where
    first : (m : List Happening) → Until m [] → WorldOf f g m
    first m ([], q) = record { world = new_world; is = q; lived = new; fine = new_fine }
    first m (h ∷ since, q) = let z : ◌≡◌ {A = ℕ} 0 1 = cc in absurd (omega arith)

    later : (w : World) (i : ℕ) (e : Event) → Step f g w i e → ((m : List Happening) → Until m w.past → WorldOf f g m)
        → (m : List Happening) → Until m (happens f g w i e).past → WorldOf f g m
    later w i e step before m ([], q) = record { world = happens f g w i e; is = q; lived = step.lived_after; fine = step.fine_after }
    later w i e step before m (h ∷ since, q) = before m (since, cc)
