use Rattle.std.proofs.Common.{ℕ, List}
use Rattle.state.specs.Memory.{state_of}
use Rattle.state.proofs.Laws.{said}
use Rattle.replication.proofs.Hearing.{next_down}
use Rattle.replication.proofs.appended.lacks.Goals as goal

pub returns : goal.returns
returns c =
    let m = c.args.mem.now in
    said m c.set_next.new.self _ _
    (next_down (state_of m) c.args.h c.next_for-next.result c.saturating_sub.result c.next_for-next.ensures.value
    c.saturating_sub.ensures) c.set_next.ensures
