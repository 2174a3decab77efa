use Rattle.std.proofs.Common.{refl, arith}
use Rattle.state.proofs.Laws.{of_words}
use Rattle.state.proofs.words.Memory.lead.Goals as goal
use Rattle.state.proofs.HeadWords.{kind_written}

pub invariant_of-self : goal.invariant_of-self
invariant_of-self c = record { held = (kind_written c.args.self.now.words.now 2 c.args.self.now.held (omega arith)).held }

pub returns : goal.returns
returns c = of_words _ _ _ refl (kind_written c.args.self.now.words.now 2 c.args.self.now.held (omega arith))
