use Rattle.state.specs.Memory.{limits_of, state_of}
use Rattle.state.specs.States.{forgot, calmed}
use Rattle.state.proofs.Laws.{next_then}
use Rattle.election.proofs.restart.start_again.Goals as goal

pub returns : goal.returns
returns c =
    let m = c.args.mem.now in
    next_then calmed m c.forget.new.self _ (forgot (limits_of m) (state_of m)) c.forget.ensures (assumption)
