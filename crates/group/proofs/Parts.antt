-- The parts of a memory follow the world, and what happens to the group is lived.
use Rattle.std.proofs.Common.{◌≡◌, ℕ, ◌<◌, true, eqb, List, ◌∷◌, sym, refl, ap, ◌∙◌, subst}
use Rattle.std.proofs.lemmas.Bool.{and_from, eqb-true, eqb-false}
use Rattle.servers.specs.Store.{pick}
use Rattle.servers.specs.Server.{Event, timeout, request, comes, restart, garbled}
use Rattle.servers.specs.World.{Group, World, Lived, new, on_timeout, on_request, on_message, on_restart, on_garbled}
use Rattle.servers.specs.World.{limits, seen, memory, happens}
use Rattle.servers.specs.Promise.{readable, all_readable, readable_world}
use Rattle.servers.proofs.Tests.{bool_by}
use Rattle.memory.specs.Program.{serves, server, called}
use Rattle.group.specs.Parts.{part, Parts, PartsOpen, PartsStep, CanHappen, AliveNew, AliveOn}

pub parts_open : PartsOpen
unfolding Parts seen memory
parts_open g size m h i low = h i low

pub parts_step : PartsStep
unfolding Parts seen memory
parts_step g size i e m m' w low p s j lower =
    bool_by (λ b. part size j m' ≡ memory server (limits g j) (pick b (e ∷ seen j w.past) (seen j w.past))) (eqb i j)
    (λ q. subst (λ (x : ℕ). part size x m' ≡ memory server (limits g x) (e ∷ seen x w.past)) (eqb-true i j q)
    (s.called_there ∙ ap (λ (x : List ℕ). called serves x e) (p i low)))
    (λ q. s.others j lower (λ r. eqb-false i j q (sym r)) ∙ p j lower)

pub alive_new : AliveNew
unfolding readable_world seen all_readable
alive_new g = record { lived = new; carried = λ i. refl }

lived_on : (g : Group) (w : World) (i : ℕ) (e : Event) → i < g.servers → CanHappen w i e → Lived server g w → Lived server g (happens server g w i e)
lived_on g w i timeout low can a = on_timeout i a low
lived_on g w i (request c k x) low can a = on_request i c k x a low
lived_on g w i (comes h m) low can a = on_message (record { by = h; letter = record { to = i; message = m } }) a can low
lived_on g w i restart low can a = on_restart i a low
lived_on g w i (garbled n) low can a = on_garbled i n a low

pub alive_on : AliveOn
unfolding readable_world seen all_readable
alive_on g w i e low fine can a =
    record {
      lived = lived_on g w i e low can a.lived;
      carried =
          λ j. bool_by (λ b. all_readable (pick b (e ∷ seen j w.past) (seen j w.past)) ≡ true) (eqb i j)
          (λ q. and_from (readable e) (all_readable (seen j w.past)) fine (a.carried j))
          (λ q. a.carried j);
    }
