use Rattle.std.proofs.Common.{refl, ◌≡◌, ℕ, ◌+◌, ◌-◌, ◌*◌, List, ap, arith}
use Rattle.servers.specs.Server.{State}
use Rattle.servers.specs.declared.limits.Limits.{Limits}
use Rattle.wire_read.specs.Means.{entries_of}
use Rattle.memory.specs.Layout.{room_in}
use Rattle.state.specs.Held.{state_of}
use Rattle.state.proofs.Laws.{of_words}
use Rattle.entries.proofs.rows.replace_entries.Goals as goal
use Rattle.entries.proofs.Logs.{count_is, lent, last_long, replace_written}

pub invariant_of-mem : goal.invariant_of-mem
invariant_of-mem c =
    let m = c.args.mem.now.words.now in
    let s : State = state_of m in
    let g = c.args.mem.now.held.fits.1 in
    let at : ℕ = c.log_at-at.result in
    let size : ℕ = at + 80 * c.limits.result.room - at in
    let room : c.limits.result.room ≡ room_in m = ap (λ (x : Limits). x.room) c.limits.ensures in
    let wide : size ≡ 80 * room_in m = omega arith in
    let last = c.last_index-len.ensures.last in
    let low = c.last_index-len.ensures.low in
    let is = last_long m c.args.mem.now.held in
    let count = count_is c.args.entries in
    record {
      held = (
          replace_written m c.replace.new.region c.args.before (entries_of c.args.entries)
          (c.args.before + c.args.entries.count) at size c.args.mem.now.held c.log_at-at.ensures wide (omega arith) c.requires.within
          c.requires.can.room c.requires.can.row c.requires.can.good
          (c.replace.ensures (room_in m) s.log (omega arith) g.row (omega arith)
          (lent m at size c.args.mem.now.held c.log_at-at.ensures wide))).held;
    }

pub returns : goal.returns
returns c =
    let m = c.args.mem.now.words.now in
    let s : State = state_of m in
    let g = c.args.mem.now.held.fits.1 in
    let at : ℕ = c.log_at-at.result in
    let size : ℕ = at + 80 * c.limits.result.room - at in
    let room : c.limits.result.room ≡ room_in m = ap (λ (x : Limits). x.room) c.limits.ensures in
    let wide : size ≡ 80 * room_in m = omega arith in
    let last = c.last_index-len.ensures.last in
    let low = c.last_index-len.ensures.low in
    let is = last_long m c.args.mem.now.held in
    let count = count_is c.args.entries in
    of_words _ _ _ refl
    (replace_written m c.replace.new.region c.args.before (entries_of c.args.entries)
    (c.args.before + c.args.entries.count) at size c.args.mem.now.held c.log_at-at.ensures wide (omega arith) c.requires.within
    c.requires.can.room c.requires.can.row c.requires.can.good
    (c.replace.ensures (room_in m) s.log (omega arith) g.row (omega arith)
    (lent m at size c.args.mem.now.held c.log_at-at.ensures wide)))
