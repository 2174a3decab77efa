-- What the code's values mean. Assumes nothing: these are definitions.
use Rattle.std.specs.Prelude.{ℕ, Option}
use Rattle.std.specs.Bool.{then_some}
use Rattle.servers.specs.Server.{Cached}

-- the last number done, of a session
abbrev pub last_of : Cached → Option ℕ
last_of x = then_some x.there x.id
