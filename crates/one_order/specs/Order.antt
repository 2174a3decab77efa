-- The linearization order, as one function of what happened. It is read off the servers' logs: of the log that is
-- committed furthest, the committed part; of that, the commands that are new to their clients' sessions.
-- Assumes nothing: these are definitions.
use Rattle.std.specs.Prelude.{◌≡◌, ℕ, zero, suc, Bool, true, not, ◌&&◌, ◌||◌, List, [], ◌∷◌, ◌++◌, ◌==◌, nat_lt}
use Rattle.servers.specs.Store.{pick, Store, reply}
use Rattle.servers.specs.Server.{Entry, Cached, State, no_cached, up_to}
use Rattle.servers.specs.World.{Group, World, Asked, store_after}
use Rattle.servers.specs.Promise.{at_server}
use Rattle.safety.specs.Safety.{Until}

-- what a client's session remembers of a command that was done on a store: its number and reply
abbrev pub remembered : Asked → Store → Cached
remembered o s = record { there = true; id = o.id; reply = reply o.command s }

-- the session of a client at one server that did these commands, the last first, and no others: of the client's last command
unfoldable pub session : List Asked → ℕ → Cached
session [] c = no_cached
session (o ∷ os) c = pick (c == o.client) (remembered o (store_after os)) (session os c)

-- whether a number is higher than the one that a session knows
abbrev pub new_to : Cached → ℕ → Bool
new_to x k = not x.there || nat_lt x.id k

abbrev pub asked_of : Entry → Asked
asked_of e = record { client = e.client; id = e.id; command = e.command }

-- the order of a log: the commands of those entries that are new to their client's session, the last first
unfoldable pub order : List Entry → List Asked
order [] = []
order (e ∷ es) = pick (new_to (session (order es) e.client) e.id) (asked_of e ∷ order es) (order es)

-- what a server has done: the order of its log up to the applied index
abbrev pub applied_order : State → List Asked
applied_order s = order (up_to s.applied s.log)

-- of the first n servers, the first whose commit index is highest
unfoldable pub furthest : (ℕ → State) → ℕ → ℕ
furthest st zero = 0
furthest st (suc n) = pick (nat_lt (st (furthest st n)).commit (st n).commit) n (furthest st n)

-- what is committed in a world: the log of that server, up to its commit index
unfoldable pub committed : Group → World → List Entry
committed g w =
    let s : State = at_server g w (furthest (at_server g w) g.servers) in
    up_to s.commit s.log

-- the linearization order of a world, the last command first
unfoldable pub linearization : Group → World → List Asked
linearization g w = order (committed g w)

-- an order that has some more commands on top, all of them later
abbrev pub Extends : List Asked → List Asked → Type 0
Extends big small = (more : List Asked) × (big ≡ more ++ small)

-- a world in which what happened in w is what happened until some moment. So is every world that `happens` leads to from w, in
-- any number of steps
abbrev pub Later : World → World → Type 0
Later w w' = Until w.past w'.past

-- how often a client's number stands in an order
unfoldable pub times : List Asked → ℕ → ℕ → ℕ
times [] c k = 0
times (o ∷ os) c k = pick (c == o.client && k == o.id) (suc (times os c k)) (times os c k)
