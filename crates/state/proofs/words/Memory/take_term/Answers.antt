use Rattle.std.proofs.Common.{refl}
use Rattle.state.proofs.Laws.{of_words}
use Rattle.state.proofs.words.Memory.take_term.Goals as goal
use Rattle.state.proofs.HeadWords.{term_written}

pub invariant_of-self : goal.invariant_of-self
invariant_of-self c = record { held = (term_written c.args.self.now.words.now c.args.t c.args.self.now.held c.requires.low).held }

pub returns : goal.returns
returns c = of_words _ _ _ refl (term_written c.args.self.now.words.now c.args.t c.args.self.now.held c.requires.low)
