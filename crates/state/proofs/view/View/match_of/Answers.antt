use Rattle.std.proofs.Common.{sym, arith}
use Rattle.state.proofs.view.View.match_of.Goals as goal
use Rattle.state.proofs.Laws.{long}
use Rattle.state.proofs.PeerWords.{match_is, match_low}

pub bounds-self-self : goal.bounds-self-self
bounds-self-self c = let z = long c.args.self.words.now c.args.self.held in omega arith

pub returns : goal.returns
returns c =
    let is = match_is c.args.self.words.now c.args.h c.requires.here in
    let low = match_low c.args.self.words.now c.args.h c.args.self.held in
    record { value = sym is; low = omega arith }
