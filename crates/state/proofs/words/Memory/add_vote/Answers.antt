use Rattle.std.proofs.Common.{refl, get_or, ap, arith}
use lib.Bits.{bit_or}
use Rattle.std.proofs.lemmas.Nat.{one_shl}
use Rattle.state.proofs.words.Memory.add_vote.Goals as goal
use Rattle.state.proofs.Laws.{of_words}
use Rattle.state.proofs.PeerWords.{ballot_written}

pub invariant_of-self : goal.invariant_of-self
invariant_of-self c =
    let few = c.args.self.now.held.good.servers in
    let here = c.requires.here in
    record {
      held = (ballot_written c.args.self.now.words.now c.args.h _ c.args.self.now.held c.requires.here
          (ap (bit_or (get_or c.args.self.now.words.now 12 0)) (one_shl c.args.h 64 (omega arith)))).held;
    }

pub returns : goal.returns
returns c =
    let few = c.args.self.now.held.good.servers in
    let here = c.requires.here in
    of_words _ _ _ refl
    (ballot_written c.args.self.now.words.now c.args.h _ c.args.self.now.held c.requires.here
    (ap (bit_or (get_or c.args.self.now.words.now 12 0)) (one_shl c.args.h 64 (omega arith))))
