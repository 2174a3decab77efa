-- What a reader's promise says where something is there to be read.
use Rattle.std.proofs.Common.{◌≡◌, ℕ, true, List, Ok, Err, Result, refl}
use Rattle.std.specs.Result.{IsOk}
use Rattle.std.specs.Borrow.{Bor}
use Rattle.std.proofs.lemmas.Bool.{both_ways}
use Rattle.wire.specs.Read.{Read}
use Rattle.wire_read.specs.Got.{is_got}
use Rattle.wire_read.specs.Means.{Reads}
use Rattle.wire_read.specs.declared.read.Stuck.{Stuck}

pub reads_ok :
    {V A : Type 0} (f : V → A) (d : Read A) (r : Result (V × Bor (List ℕ)) Stuck) → Reads f d r
    → is_got d ≡ true
    → IsOk r
reads_ok f d (Ok p) h g = refl
reads_ok f d (Err s) h g = let z = rw h at g in absurd (both_ways _ refl z)
