use Rattle.std.proofs.Common.{◌<◌, ◌≤◌, min, length, arith}
use Rattle.state.specs.Memory.{state_of}
use Rattle.apply.proofs.Going.{going_room, going_on, last_turns, last_bytes, last_count}
use Rattle.apply.proofs.all.apply_all.Goals as goal

pub apply_next-count-requires : goal.apply_next-count-requires
apply_next-count-requires c =
    let m₀ = c.args.mem.now in
    let g = c.loop-done.invariant in
    let to = c.due_to-end.ensures in
    let test = c.loop-done-test.true in
    let more : c.loop-done.done < min (state_of m₀).commit (length (state_of m₀).log) = omega arith in
    let here = g.here in
    let long = g.long in
    record {
      next = omega arith;
      there = omega arith;
      room = going_room m₀ c.args.to.now c.loop-done.mem c.loop-done.to c.loop-done.done c.loop-done.count g more;
    }

pub loop-done-preserved : goal.loop-done-preserved
loop-done-preserved c =
    let m₀ = c.args.mem.now in
    let to = c.due_to-end.ensures in
    let test = c.loop-done-test.true in
    let more : c.loop-done.done < min (state_of m₀).commit (length (state_of m₀).log) = omega arith in
    let r = c.apply_next-count.ensures in
    going_on m₀ c.args.to.now c.loop-done.mem c.loop-done.to c.loop-done.done c.loop-done.count c.loop-done.invariant more
    c.apply_next-count.new.mem c.apply_next-count.new.to _ r.turns r.bytes (omega arith)

pub returns : goal.returns
returns c =
    let m₀ = c.args.mem.now in
    let v₀ = c.args.to.now in
    let m = c.loop-done.mem in
    let v = c.loop-done.to in
    let g = c.loop-done.invariant in
    let to = c.due_to-end.ensures in
    let test = c.loop-done-test.false in
    let done : min (state_of m₀).commit (length (state_of m₀).log) ≤ c.loop-done.done = omega arith in
    record {
      turns = last_turns m₀ v₀ m v c.loop-done.done c.loop-done.count g done c.finish.new.mem c.finish.ensures;
      bytes = last_bytes m₀ v₀ m v c.loop-done.done c.loop-done.count g done;
      count = last_count m₀ v₀ m v c.loop-done.done c.loop-done.count g done;
    }
