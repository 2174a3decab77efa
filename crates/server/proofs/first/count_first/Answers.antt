use Rattle.std.proofs.Common.{ℕ, arith}
use Rattle.servers.specs.Server.{Message}
use Rattle.state.specs.View.{me_in, servers_in, state_of}
use Rattle.sending.specs.Letters.{asks}
use Rattle.sending.proofs.ToAll.{how_many}
use Rattle.server.proofs.first.count_first.Goals as goal

pub returns-in-Asks : goal.returns-in-Asks
returns-in-Asks c =
    let m = c.args.mem in
    let f : (ℕ → Message) = λ h. asks (state_of m) in
    let few = c.args.mem.held.good.servers in
    let n = how_many (servers_in m) (me_in m) f c.args.mem.held.good.me in
    let e = c.others.ensures f in
    rw c.in-Asks.is (record { value = e; low = omega arith })
