use Rattle.std.proofs.Common.{refl}
use Rattle.state.proofs.Laws.{of_words}
use Rattle.state.proofs.words.Memory.follow.Goals as goal
use Rattle.state.proofs.HeadWords.{follow_written}

pub invariant_of-self : goal.invariant_of-self
invariant_of-self c = record { held = (follow_written c.args.self.now.words.now c.args.h c.args.self.now.held c.requires.here).held }

pub returns : goal.returns
returns c = of_words _ _ _ refl (follow_written c.args.self.now.words.now c.args.h c.args.self.now.held c.requires.here)
