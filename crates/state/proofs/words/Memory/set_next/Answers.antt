use Rattle.std.proofs.Common.{refl, arith}
use Rattle.state.proofs.words.Memory.set_next.Goals as goal
use Rattle.state.proofs.Laws.{long, of_words}
use Rattle.state.proofs.PeerWords.{next_written}

pub bounds-self-h : goal.bounds-self-h
bounds-self-h c = let z = long c.args.self.now.words.now c.args.self.now.held in omega arith

pub invariant_of-self : goal.invariant_of-self
invariant_of-self c = record { held = (next_written c.args.self.now.words.now c.args.h c.args.n c.args.self.now.held c.requires.here c.requires.low).held }

pub returns : goal.returns
returns c = of_words _ _ _ refl (next_written c.args.self.now.words.now c.args.h c.args.n c.args.self.now.held c.requires.here c.requires.low)
