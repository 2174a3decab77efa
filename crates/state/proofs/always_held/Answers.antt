use Rattle.state.proofs.always_held.Goals as goal
use Rattle.state.proofs.Holding.{always_held}

pub returns : goal.returns
returns c = always_held
