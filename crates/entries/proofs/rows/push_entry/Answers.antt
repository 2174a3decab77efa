use Rattle.std.proofs.Common.{refl, ◌≡◌, ℕ, suc, ◌+◌, ◌-◌, ◌*◌, List, ap, arith}
use Rattle.servers.specs.Server.{State, last_index}
use Rattle.servers.specs.declared.limits.Limits.{Limits}
use Rattle.wire_read.specs.Means.{command_of}
use Rattle.memory.specs.Layout.{room_in}
use Rattle.state.specs.Held.{state_of}
use Rattle.state.proofs.Laws.{of_words}
use Rattle.entries.proofs.rows.push_entry.Goals as goal
use Rattle.entries.proofs.Logs.{lent, last_long, push_written}

pub invariant_of-mem : goal.invariant_of-mem
invariant_of-mem c =
    let m = c.args.mem.now.words.now in
    let s : State = state_of m in
    let at : ℕ = c.log_at-at.result in
    let size : ℕ = at + 80 * c.limits.result.room - at in
    let room : c.limits.result.room ≡ room_in m = ap (λ (x : Limits). x.room) c.limits.ensures in
    let wide : size ≡ 80 * room_in m = omega arith in
    let last = c.last_index-len.ensures.last in
    let is = last_long m c.args.mem.now.held in
    record {
      held = (
          push_written m c.push.new.region c.args.numbers (command_of c.args.command)
          (c.last_index-len.result + 1) at size c.args.mem.now.held c.log_at-at.ensures wide (omega arith) c.requires.room c.requires.good
          (c.push.ensures (room_in m) (suc (last_index s.log)) s.log (omega arith)
          (lent m at size c.args.mem.now.held c.log_at-at.ensures wide))).held;
    }

pub returns : goal.returns
returns c =
    let m = c.args.mem.now.words.now in
    let s : State = state_of m in
    let at : ℕ = c.log_at-at.result in
    let size : ℕ = at + 80 * c.limits.result.room - at in
    let room : c.limits.result.room ≡ room_in m = ap (λ (x : Limits). x.room) c.limits.ensures in
    let wide : size ≡ 80 * room_in m = omega arith in
    let last = c.last_index-len.ensures.last in
    let is = last_long m c.args.mem.now.held in
    of_words _ _ _ refl
    (push_written m c.push.new.region c.args.numbers (command_of c.args.command)
    (c.last_index-len.result + 1) at size c.args.mem.now.held c.log_at-at.ensures wide (omega arith) c.requires.room c.requires.good
    (c.push.ensures (room_in m) (suc (last_index s.log)) s.log (omega arith)
    (lent m at size c.args.mem.now.held c.log_at-at.ensures wide)))
