use Rattle.std.proofs.Common.{ℕ, List, ◌++◌, get_or, arith}
use Rattle.wire.specs.Write.{write_number}
use Rattle.wire_write.proofs.Putting.{room_first, room_next, wrote_as, wrote_then}
use Rattle.wire_write.proofs.Texts.{length_number}
use Rattle.raft_log.proofs.Commands.{first_of}
use Rattle.raft_log.proofs.Written.{length_part}
use Rattle.apply.proofs.Telling.{reply_bytes, session_bytes, room_said}
use Rattle.apply.proofs.tell.write_session.Goals as goal

pub number-requires : goal.number-requires
number-requires c =
    let ws : List ℕ = c.args.kept.now in
    let rest : List ℕ = write_number (get_or ws 1 0) ++ (reply_bytes 2 ws ++ reply_bytes 35 ws) in
    let whole = room_said c.args.client ws c.args.to.now c.requires.room in
    let room = room_first (write_number c.args.client) rest c.args.to.now whole in
    let l = length_number c.args.client in
    omega arith

pub number-requires-2 : goal.number-requires-2
number-requires-2 c =
    let ws : List ℕ = c.args.kept.now in
    let replies : List ℕ = reply_bytes 2 ws ++ reply_bytes 35 ws in
    let whole = room_said c.args.client ws c.args.to.now c.requires.room in
    let room = room_first (write_number (get_or ws 1 0)) replies c.number.new.self
    (room_next (write_number (get_or ws 1 0) ++ replies) whole c.number.ensures.bytes) in
    let l = length_number (get_or ws 1 0) in
    omega arith

pub perhaps_in-requires : goal.perhaps_in-requires
perhaps_in-requires c =
    let ws : List ℕ = c.args.kept.now in
    let replies : List ℕ = reply_bytes 2 ws ++ reply_bytes 35 ws in
    let whole = room_said c.args.client ws c.args.to.now c.requires.room in
    let size = c.requires.size in
    let low = c.requires.after in
    let long = length_part 2 33 ws (omega arith) in
    let first = first_of 2 33 ws (omega arith) in
    record {
      some = omega arith;
      sound = omega arith;
      room = room_first (reply_bytes 2 ws) (reply_bytes 35 ws) c.number-2.new.self
          (room_next replies (room_next (write_number (get_or ws 1 0) ++ replies) whole c.number.ensures.bytes)
          c.number-2.ensures.bytes);
    }

pub perhaps_in-requires-2 : goal.perhaps_in-requires-2
perhaps_in-requires-2 c =
    let ws : List ℕ = c.args.kept.now in
    let replies : List ℕ = reply_bytes 2 ws ++ reply_bytes 35 ws in
    let whole = room_said c.args.client ws c.args.to.now c.requires.room in
    let size = c.requires.size in
    let low = c.requires.before in
    let long = length_part 35 33 ws (omega arith) in
    let first = first_of 35 33 ws (omega arith) in
    record {
      some = omega arith;
      sound = omega arith;
      room = room_next (reply_bytes 35 ws)
          (room_next replies (room_next (write_number (get_or ws 1 0) ++ replies) whole c.number.ensures.bytes)
          c.number-2.ensures.bytes)
          c.perhaps_in.ensures;
    }

pub returns : goal.returns
returns c =
    wrote_as (session_bytes c.args.client c.args.kept.now)
    (wrote_then c.number.ensures.bytes
    (wrote_then c.number-2.ensures.bytes (wrote_then c.perhaps_in.ensures c.perhaps_in-2.ensures)))
