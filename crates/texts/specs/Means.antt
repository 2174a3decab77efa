-- What the code's types mean. Assumes nothing: these are definitions.
use Rattle.std.specs.Prelude.{ℕ, List, [], ◌∷◌, Some, None, Option}
use Rattle.std.specs.Borrow.{Bor}
use Rattle.servers.specs.Store.{Perhaps}

-- a text or none
abbrev pub perhaps_of : Option (Bor (List ℕ)) → Perhaps
perhaps_of None = []
perhaps_of (Some t) = t.now ∷ []
