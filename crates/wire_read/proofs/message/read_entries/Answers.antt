use Rattle.std.proofs.Common.{◌≡◌, ◌+◌, ◌-◌, sym, ◌∙◌, arith}
use Rattle.std.proofs.lemmas.Result.{err_from_is_err_and}
use Rattle.wire_read.specs.Means.{entry_of}
use Rattle.wire_read.proofs.Passing.{passed_more, passed_refused, passed_all, from_passed_stuck}
use Rattle.wire_read.proofs.message.read_entries.Goals as goal

pub loop-preserved : goal.loop-preserved
loop-preserved c =
    let n : c.args.count - c.loop.counter - 1 ≡ c.args.count - (c.loop.counter + 1) = omega arith in
    let e =
    passed_more
    (c.args.count - c.loop.counter)
    c.loop.rest.now
    c.in_ok-after.after.now
    (entry_of c.in_ok-after.field-0-0)
    (omega arith)
    c.in_ok-after.ensures in
    cc

pub returns-in_err-after : goal.returns-in_err-after
returns-in_err-after c =
    let x = err_from_is_err_and c.from_residual.result c.from_residual.ensures.1 in
    let e = passed_refused (c.args.count - c.loop.counter) _ c.loop.rest.now (omega arith) c.in_err-after.ensures in
    rw (x.1, x.2) (from_passed_stuck _ _ (sym c.loop.invariant ∙ e))

pub invariant_of-result : goal.invariant_of-result
invariant_of-result c = record { there = (passed_all (c.args.count - c.loop.counter) _ _ (omega arith) c.loop.invariant).1 }

pub returns : goal.returns
returns c = (passed_all (c.args.count - c.loop.counter) _ _ (omega arith) c.loop.invariant).0
