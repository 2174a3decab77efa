use Rattle.std.proofs.Common.{◌<◌, ◌≤◌, sym, arith}
use Rattle.std.proofs.lemmas.Bool.{lt-ltb, le-ltb}
use Rattle.servers.specs.Server.{with_term}
use Rattle.servers.proofs.Tests.{pick_true, pick_false}
use Rattle.state.specs.Memory.{state_of}
use Rattle.state.proofs.Laws.{stays, said}
use Rattle.state.proofs.words.Memory.advance.Goals as goal

pub returns-then-term-t : goal.returns-then-term-t
returns-then-term-t c =
    let newer : (state_of c.args.self.now).term < c.args.t = omega (arith, c.term.ensures.value, c.if-term-t.true) in
    said c.args.self.now c.take_term.new.self _ _
    (sym (pick_true _ _ (state_of c.args.self.now) (lt-ltb (state_of c.args.self.now).term c.args.t newer))) c.take_term.ensures

pub returns-else-term-t : goal.returns-else-term-t
returns-else-term-t c =
    let same : c.args.t ≤ (state_of c.args.self.now).term = omega (arith, c.term.ensures.value, c.if-term-t.false) in
    said c.args.self.now c.args.self.now _ _
    (sym (pick_false _ (with_term c.args.t (state_of c.args.self.now)) _ (le-ltb (state_of c.args.self.now).term c.args.t same)))
    (stays c.args.self.now)
