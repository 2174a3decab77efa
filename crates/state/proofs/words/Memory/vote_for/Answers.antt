use Rattle.std.proofs.Common.{refl}
use Rattle.state.proofs.Laws.{of_words}
use Rattle.state.proofs.words.Memory.vote_for.Goals as goal
use Rattle.state.proofs.HeadWords.{vote_written}

pub invariant_of-self : goal.invariant_of-self
invariant_of-self c = record { held = (vote_written c.args.self.now.words.now c.args.h c.args.self.now.held c.requires.here).held }

pub returns : goal.returns
returns c = of_words _ _ _ refl (vote_written c.args.self.now.words.now c.args.h c.args.self.now.held c.requires.here)
