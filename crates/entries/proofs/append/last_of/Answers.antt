use Rattle.std.proofs.Common.{sym, ap}
use Rattle.entries.specs.Steps.{last_in}
use Rattle.entries.proofs.append.last_of.Goals as goal
use Rattle.entries.proofs.Logs.{none_there}

pub returns-then-entries-eq0 : goal.returns-then-entries-eq0
returns-then-entries-eq0 c =
    sym (ap last_in (none_there c.args.entries c.if-entries-eq0.true))
