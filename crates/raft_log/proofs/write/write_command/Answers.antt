use Rattle.std.proofs.Common.{ℕ, List, ◌++◌, length, arith}
use Rattle.wire_write.proofs.Putting.{room_first, room_next}
use Rattle.raft_log.proofs.write.write_command.Goals as goal
use Rattle.raft_log.proofs.Written.{length_part}
use Rattle.raft_log.proofs.Commands.{first_of, name_bytes, expected_bytes, last_bytes, room_name, command_written}

pub text_in-requires : goal.text_in-requires
text_in-requires c =
    let ws : List ℕ = c.args.words.now in
    let size = c.requires.size in
    let long = length_part 1 9 ws (omega arith) in
    let first = first_of 1 9 ws (omega arith) in
    let sound = c.requires.sound.name in
    let room = room_name ws c.requires.sound.tag c.requires.room c.byte.ensures.bytes in
    record {
      some = omega arith;
      sound = omega arith;
      room = room_first (name_bytes ws) (expected_bytes ws ++ last_bytes ws) c.byte.new.self room;
    }

pub write_expected-requires : goal.write_expected-requires
write_expected-requires c =
    let ws : List ℕ = c.args.words.now in
    let size = c.requires.size in
    let first = first_of 10 33 ws (omega arith) in
    let sound = c.requires.sound.expected in
    let room = room_name ws c.requires.sound.tag c.requires.room c.byte.ensures.bytes in
    record {
      size = length_part 10 33 ws (omega arith);
      sound = omega arith;
      room = room_first (expected_bytes ws) (last_bytes ws) c.text_in.new.self (room_next (expected_bytes ws ++ last_bytes ws) room c.text_in.ensures);
    }

pub write_last-requires : goal.write_last-requires
write_last-requires c =
    let ws : List ℕ = c.args.words.now in
    let size = c.requires.size in
    let first = first_of 43 33 ws (omega arith) in
    let sound = c.requires.sound.text in
    let room = room_name ws c.requires.sound.tag c.requires.room c.byte.ensures.bytes in
    record {
      size = length_part 43 33 ws (omega arith);
      sound = omega arith;
      room = room_next (last_bytes ws) (room_next (expected_bytes ws ++ last_bytes ws) room c.text_in.ensures) c.write_expected.ensures;
    }

pub returns : goal.returns
returns c =
    command_written c.args.words.now c.requires.sound.tag c.byte.ensures.bytes c.text_in.ensures c.write_expected.ensures
    c.write_last.ensures
