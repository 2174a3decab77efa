use Rattle.std.proofs.Common.{refl}
use Rattle.state.proofs.Laws.{of_words}
use Rattle.state.proofs.words.Memory.set_commit.Goals as goal
use Rattle.state.proofs.HeadWords.{commit_written}

pub invariant_of-self : goal.invariant_of-self
invariant_of-self c = record { held = (commit_written c.args.self.now.words.now c.args.c c.args.self.now.held c.requires.low).held }

pub returns : goal.returns
returns c = of_words _ _ _ refl (commit_written c.args.self.now.words.now c.args.c c.args.self.now.held c.requires.low)
