use Rattle.std.proofs.Common.{◌-◌, ap, ◌∙◌}
use Rattle.servers.specs.declared.limits.Limits.{Limits}
use Rattle.sending.proofs.others.others.Goals as goal
use Rattle.sending.proofs.ToAll.{how_many}
use Rattle.state.specs.View.{me_in, servers_in}

pub returns : goal.returns
returns c =
    λ f. ap (λ (l : Limits). l.servers - 1) c.limits.ensures
    ∙ how_many (servers_in c.args.mem) (me_in c.args.mem) f c.args.mem.held.good.me
