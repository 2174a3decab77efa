use Rattle.std.proofs.Common.{refl}
use Rattle.state.proofs.Laws.{of_words}
use Rattle.state.proofs.words.Memory.set_applied.Goals as goal
use Rattle.state.proofs.HeadWords.{applied_written}

pub invariant_of-self : goal.invariant_of-self
invariant_of-self c = record { held = (applied_written c.args.self.now.words.now c.args.a c.args.self.now.held c.requires.more c.requires.low).held }

pub returns : goal.returns
returns c = of_words _ _ _ refl (applied_written c.args.self.now.words.now c.args.a c.args.self.now.held c.requires.more c.requires.low)
