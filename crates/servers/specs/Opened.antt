-- The limits of the code, and those of the definitions that they stand for.
use Rattle.std.specs.Prelude.{◌≡◌, ℕ, Bool, ◌&&◌, Ok, Err, Result, nat_le, nat_lt}
use Rattle.servers.specs.declared.limits.Limits.{Limits}
use Rattle.servers.specs.declared.limits.Limit.{Limit}
use Rattle.servers.specs.declared.limits.Limit.TheVariants.{Servers, Me, Clients, Room}
use Rattle.servers.specs.Store.{pick}
use Rattle.servers.specs.Server as server
use Rattle.servers.specs.Promise.{GoodLimits}

-- the first limit out of its range: 2 to 16 servers, this one of them, 1 to 4,096 clients, room for 1 to 65,536 entries
abbrev pub opened : ℕ → ℕ → ℕ → ℕ → Result Limits Limit
opened s m c r =
    pick (nat_le 2 s && nat_le s 16)
    (pick (nat_lt m s)
    (pick (nat_le 1 c && nat_le c 4096)
    (pick (nat_le 1 r && nat_le r 65536) (Ok (record { servers = s; me = m; clients = c; room = r })) (Err Room))
    (Err Clients))
    (Err Me))
    (Err Servers)

-- what the code's limits stand for, of servers that can do these events
abbrev pub limits_of : (ℕ → Bool) → Limits → server.Limits
limits_of can l = record { events_can = can; servers = l.servers; me = l.me; clients = l.clients; room = l.room }

-- limits that were opened are good
abbrev pub OpenedIsGood : Type 0
OpenedIsGood = (can : ℕ → Bool) (s m c r : ℕ) (l : Limits) → opened s m c r ≡ Ok l → GoodLimits can (limits_of can l)
