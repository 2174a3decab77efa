use Rattle.std.proofs.Common.{arith}
use Rattle.state.proofs.view.View.session_at.Goals as goal
use Rattle.state.proofs.Laws.{long}

pub returns : goal.returns
returns c =
    let z = long c.args.self.words.now c.args.self.held in
    let at = c.sessions_at.ensures in
    let there = c.requires.there in
    record { value = omega arith; end = omega arith }
