use Rattle.std.proofs.Common.{length, ap, ◌∙◌, arith}
use Rattle.memory.proofs.Parts.{length_cached}
use Rattle.state.specs.View.{state_of}
use Rattle.apply.specs.Applied.{session}
use Rattle.apply.proofs.Sessions.{last_words}
use Rattle.apply.proofs.session.last_done.Goals as goal

pub bounds-kept-0 : goal.bounds-kept-0
bounds-kept-0 c =
    let l = ap length c.session-kept.ensures ∙ length_cached (session (state_of c.args.mem) c.args.client) in
    omega arith

pub bounds-kept-1 : goal.bounds-kept-1
bounds-kept-1 c =
    let l = ap length c.session-kept.ensures ∙ length_cached (session (state_of c.args.mem) c.args.client) in
    omega arith

pub returns : goal.returns
returns c =
    c.then_some.ensures
    ∙ last_words (session (state_of c.args.mem) c.args.client) c.session-kept.result.now c.session-kept.ensures
