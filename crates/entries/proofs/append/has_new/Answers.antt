use Rattle.std.proofs.Common.{sym, ap}
use Rattle.wire_read.specs.Means.{entries_of}
use Rattle.state.specs.Memory.{state_of}
use Rattle.entries.specs.declared.append.Last.{Last}
use Rattle.entries.proofs.append.has_new.Goals as goal
use Rattle.entries.proofs.Logs.{count_is}

pub returns : goal.returns
returns c =
    c.has_new.ensures (state_of c.args.mem.now) (entries_of c.args.entries) (sym c.log.ensures.log) (count_is c.args.entries)
    (sym (ap (λ (x : Last). x.index) c.requires.last)) (sym (ap (λ (x : Last). x.term) c.requires.last))
