use Rattle.std.proofs.Common.{sym, refl}
use Rattle.state.proofs.view.View.last_index.Goals as goal
use Rattle.state.proofs.Laws.{last_is, long_log}

pub returns : goal.returns
returns c =
    record { word = refl; last = sym (last_is c.args.self.words.now); low = long_log c.args.self.words.now c.args.self.held }
