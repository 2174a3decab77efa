use Rattle.std.proofs.Common.{ℕ, List, sym, ◌∙◌}
use Rattle.servers.specs.Server.{Entry}
use Rattle.servers.proofs.Tests.{pick_true, pick_false}
use Rattle.wire_read.specs.Means.{entries_of}
use Rattle.state.specs.Memory.{state_of}
use Rattle.state.proofs.Laws.{stays, said}
use Rattle.entries.specs.Steps.{extended}
use Rattle.entries.proofs.append.extend_by_new.Goals as goal

pub returns-then-new : goal.returns-then-new
returns-then-new c =
    let m = c.args.mem.now in
    let es : List Entry = entries_of c.args.entries in
    said m c.extend.new.mem _ _
    (sym (pick_true _ (extended (state_of m) c.args.before es c.args.commit) (state_of m) (sym c.has_new-new.ensures ∙ c.if-new.true)))
    c.extend.ensures

pub returns-else-new : goal.returns-else-new
returns-else-new c =
    let m = c.args.mem.now in
    let es : List Entry = entries_of c.args.entries in
    said m m _ _
    (sym (pick_false _ (extended (state_of m) c.args.before es c.args.commit) (state_of m) (sym c.has_new-new.ensures ∙ c.if-new.false)))
    (stays m)
