-- What was read, and whether anything was. Assumes nothing: these are definitions.
use Rattle.std.specs.Prelude.{Bool, true, false, List, []}
use Rattle.wire.specs.Read.{Read, got, stuck}

-- what was read, and none where it was stuck
abbrev pub list_read : {A : Type 0} → Read (List A) → List A
list_read (got xs r) = xs
list_read (stuck k) = []

abbrev pub is_got : {A : Type 0} → Read A → Bool
is_got (got a r) = true
is_got (stuck k) = false
