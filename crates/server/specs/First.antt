-- The letters that an event's first step leaves to be sent. Assumes nothing: these are definitions.
use Rattle.std.specs.Prelude.{Bool, List, [], ◌∷◌, ◌++◌}
use Rattle.servers.specs.Store.{pick}
use Rattle.servers.specs.Server.{Letter, Limits, State, vote, appended, to_others, to_server}
use Rattle.sending.specs.Letters.{asks}
use Rattle.server.specs.declared.first.First.{First}
use Rattle.server.specs.declared.first.First.TheVariants.{Nothing, Asks, Vote, Reply}

abbrev pub first_of : Limits → State → First → List Letter
first_of l s Nothing = []
first_of l s Asks = to_others l.servers l.me (λ h. asks s)
first_of l s (Vote h t ok) = record { to = h; message = vote t ok } ∷ []
first_of l s (Reply h t i ok) = record { to = h; message = appended t i ok } ∷ []

-- entries to all, if there is reason to
abbrev pub entries_if : Bool → Limits → State → List Letter
entries_if b l s = pick b (to_others l.servers l.me (λ h. to_server s h)) []

abbrev pub letters_of : Bool → Limits → State → First → List Letter
letters_of b l s x = first_of l s x ++ entries_if b l s
