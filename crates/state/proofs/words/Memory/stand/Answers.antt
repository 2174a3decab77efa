use Rattle.std.proofs.Common.{refl, arith}
use Rattle.std.proofs.lemmas.Nat.{one_shl}
use Rattle.memory.specs.Layout.{me_in}
use Rattle.state.proofs.words.Memory.stand.Goals as goal
use Rattle.state.proofs.Laws.{of_words}
use Rattle.state.proofs.HeadWords.{wants_written}

pub invariant_of-self : goal.invariant_of-self
invariant_of-self c =
    let g = c.args.self.now.held.good in
    let few = g.servers in
    let me = g.me in
    record { held = (wants_written c.args.self.now.words.now _ c.args.self.now.held c.requires.more (one_shl (me_in c.args.self.now.words.now) 64 (omega arith))).held }

pub returns : goal.returns
returns c =
    let g = c.args.self.now.held.good in
    let few = g.servers in
    let me = g.me in
    of_words _ _ _ refl
    (wants_written c.args.self.now.words.now _ c.args.self.now.held c.requires.more (one_shl (me_in c.args.self.now.words.now) 64 (omega arith)))
