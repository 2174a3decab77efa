-- The refusals in their order.
use Rattle.std.proofs.Common.{◌≡◌, ℕ, zero, suc, Bool, true, false, eqb, refl, arith}
use Rattle.std.proofs.lemmas.Bool.{ne_eqb}
use Rattle.servers.specs.Store.{pick}
use Rattle.servers.specs.Server.{timeout, request, comes, restart, garbled, turned_by}
use Rattle.checks.specs.Refusals.{RefusalsInOrder, in_range, by_itself}

-- a refusal by the event alone comes first, where it and the state's don't overlap
in_order : (b : Bool) (n f s : ℕ) → n ≡ pick (eqb f 0) s f → pick b n 2 ≡ pick (eqb (pick b f 2) 0) s (pick b f 2)
in_order true n f s e = e
in_order false n f s e = refl

alone : (f : ℕ) → f ≡ pick (eqb f 0) 0 f
alone zero = refl
alone (suc n) = rw (ne_eqb (suc n) 0 (λ q. omega arith)) refl

pub refusals_in_order : RefusalsInOrder
refusals_in_order l s timeout = in_order (in_range l timeout) (turned_by l s timeout) 0 (turned_by l s timeout) refl
refusals_in_order l s (request c k x) =
    in_order (in_range l (request c k x)) (turned_by l s (request c k x)) 0 (turned_by l s (request c k x)) refl
refusals_in_order l s (comes h m) = in_order (in_range l (comes h m)) (by_itself l (comes h m)) (by_itself l (comes h m)) 0 (alone _)
refusals_in_order l s restart = in_order (in_range l restart) 0 0 0 refl
refusals_in_order l s (garbled n) = in_order (in_range l (garbled n)) 1 1 0 refl
