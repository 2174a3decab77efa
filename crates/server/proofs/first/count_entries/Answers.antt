use Rattle.std.proofs.Common.{ℕ, Bool, length, sym, ap, ◌∙◌, arith}
use Rattle.servers.specs.Server.{Message, to_server}
use Rattle.state.specs.View.{limits_of, me_in, servers_in, state_of}
use Rattle.sending.proofs.ToAll.{how_many}
use Rattle.server.specs.First.{entries_if}
use Rattle.server.proofs.first.count_entries.Goals as goal

pub returns-then-send : goal.returns-then-send
returns-then-send c =
    let m = c.args.mem in
    let f : (ℕ → Message) = λ h. to_server (state_of m) h in
    let few = c.args.mem.held.good.servers in
    let n = how_many (servers_in m) (me_in m) f c.args.mem.held.good.me in
    let e = c.others.ensures f in
    record {
      value = e ∙ ap (λ (b : Bool). length (entries_if b (limits_of m) (state_of m))) (sym c.if-send.true);
      low = omega arith;
    }
