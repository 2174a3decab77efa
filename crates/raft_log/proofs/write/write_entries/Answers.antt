use Rattle.std.proofs.Common.{◌≡◌, ℕ, ◌-◌, List, ◌++◌, length, sym, ap, subst, arith}
use Rattle.servers.specs.Server.{Entry}
use Rattle.wire.specs.Write.{write_entry}
use Rattle.wire_write.specs.Put.{Room}
use Rattle.wire_write.proofs.Putting.{room_first, room_next, wrote_none, wrote_as, wrote_then}
use Rattle.raft_log.specs.Places.{words_of, entry_in}
use Rattle.raft_log.proofs.write.write_entries.Goals as goal
use Rattle.raft_log.proofs.Entries.{above_bytes, above_more, above_end, lent_sound, lent_entry}

pub write_entry-requires : goal.write_entry-requires
write_entry-requires c =
    let rows : List (List ℕ) = c.args.log.now in
    let ws : List ℕ = words_of rows in
    let left : ℕ = c.loop-i.i in
    let some = c.loop-i-test.true in
    let most = c.loop-i.auto.i in
    let more = ap length (above_more c.args.index left ws some) in
    let room = c.loop-i.invariant.0 in
    record {
      sound = lent_sound (left - 1) rows c.told-log c.requires.sound (omega arith);
      room = subst (λ (e : Entry). Room (length (write_entry e)) c.loop-i.to)
          (sym (lent_entry left rows c.told-log (omega arith) (omega arith)))
          (room_first (write_entry (entry_in left ws)) (above_bytes c.args.index (left - 1) ws) c.loop-i.to (omega arith));
    }

pub loop-i-preserved : goal.loop-i-preserved
loop-i-preserved c =
    let rows : List (List ℕ) = c.args.log.now in
    let ws : List ℕ = words_of rows in
    let left : ℕ = c.loop-i.i in
    let rest : List ℕ = above_bytes c.args.index (left - 1) ws in
    let some = c.loop-i-test.true in
    let most = c.loop-i.auto.i in
    let more = above_more c.args.index left ws some in
    let long = ap length more in
    let room = c.loop-i.invariant.0 in
    let here = wrote_as (ap write_entry (lent_entry left rows c.told-log (omega arith) (omega arith))) c.write_entry.ensures in
    (room_next rest (omega arith) here, λ w h. c.loop-i.invariant.1 w (wrote_as more (wrote_then here h)))

pub returns : goal.returns
returns c =
    let room = c.loop-i.invariant.0 in
    let none = above_end c.args.index c.loop-i.i (words_of c.args.log.now) c.loop-i-test.false in
    c.loop-i.invariant.1 c.loop-i.to (wrote_as (sym none) (wrote_none c.loop-i.to (omega arith)))
