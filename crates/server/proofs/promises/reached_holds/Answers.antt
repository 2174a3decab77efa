use Rattle.server.proofs.Reaching.{reached_held, reached_limits}
use Rattle.server.proofs.promises.reached_holds.Goals as goal

pub returns : goal.returns
returns c = λ l m x. (reached_held l m x, reached_limits l m x)
