use Rattle.servers.proofs.limits.opened_is_good.Goals as goal
use Rattle.servers.proofs.Opening.{opened_is_good}

pub returns : goal.returns
returns c = opened_is_good
