use Rattle.std.proofs.Common.{refl, arith}
use Rattle.state.proofs.words.Memory.set_match.Goals as goal
use Rattle.state.proofs.Laws.{long, of_words}
use Rattle.state.proofs.PeerWords.{match_written}

pub bounds-self-servers : goal.bounds-self-servers
bounds-self-servers c = let z = long c.args.self.now.words.now c.args.self.now.held in omega arith

pub invariant_of-self : goal.invariant_of-self
invariant_of-self c = record { held = (match_written c.args.self.now.words.now c.args.h c.args.i c.args.self.now.held c.requires.here c.requires.low).held }

pub returns : goal.returns
returns c = of_words _ _ _ refl (match_written c.args.self.now.words.now c.args.h c.args.i c.args.self.now.held c.requires.here c.requires.low)
