use Rattle.std.proofs.Common.{refl}
use Rattle.state.proofs.Laws.{of_words}
use Rattle.state.proofs.words.Memory.calm.Goals as goal
use Rattle.state.proofs.HeadWords.{calm_written}

pub invariant_of-self : goal.invariant_of-self
invariant_of-self c = record { held = (calm_written c.args.self.now.words.now c.args.self.now.held).held }

pub returns : goal.returns
returns c = of_words _ _ _ refl (calm_written c.args.self.now.words.now c.args.self.now.held)
