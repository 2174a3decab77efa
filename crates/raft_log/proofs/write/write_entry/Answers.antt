use Rattle.std.proofs.Common.{◌≡◌, ℕ, List, length, get_or, drop, sym, ap, ◌∙◌, subst, arith}
use Rattle.std.proofs.lemmas.List.{length-drop}
use Rattle.wire.specs.Write.{write_command}
use Rattle.wire_write.specs.Put.{Room}
use Rattle.wire_write.proofs.Putting.{room_first, room_next, wrote_as, wrote_then}
use Rattle.raft_log.specs.declared.row.Numbers.{Numbers}
use Rattle.raft_log.specs.Rows.{command_in}
use Rattle.raft_log.specs.Bytes.{SoundCommand}
use Rattle.raft_log.proofs.write.write_entry.Goals as goal
use Rattle.raft_log.proofs.Rooms.{length_numbers}
use Rattle.raft_log.proofs.Entries.{numbers_bytes, numbers_same, entry_bytes, command_rest, room_both}

pub write_numbers-requires : goal.write_numbers-requires
write_numbers-requires c =
    let ws : List ℕ = c.args.row.now in
    let same = ap (λ (x : Numbers). x.server) c.read.ensures in
    let server = c.requires.sound.server in
    let room = room_first (numbers_bytes c.args.index ws) (write_command (command_in (drop 4 ws))) c.args.to.now
    (room_both c.args.index ws c.args.to.now c.requires.room) in
    let long = length_numbers (get_or ws 1 0) (get_or ws 2 0) (get_or ws 3 0) c.args.index (get_or ws 0 0) in
    record { server = omega arith; room = omega arith }

pub write_command-requires : goal.write_command-requires
write_command-requires c =
    let ws : List ℕ = c.args.row.now in
    let rest = command_rest ws c.told-row in
    let long = length-drop 4 ws in
    let size = c.told-row in
    let numbers = wrote_as (numbers_same c.args.index ws c.read.result c.read.ensures) c.write_numbers.ensures.bytes in
    let w = c.write_numbers.new.to in
    record {
      size = ap length rest ∙ omega arith;
      sound = subst (λ (x : List ℕ). SoundCommand x) (sym rest) c.requires.sound.command;
      room = subst (λ (x : List ℕ). Room (length (write_command (command_in x))) w) (sym rest)
          (room_next (write_command (command_in (drop 4 ws))) (room_both c.args.index ws c.args.to.now c.requires.room) numbers);
    }

pub returns : goal.returns
returns c =
    let ws : List ℕ = c.args.row.now in
    wrote_as (entry_bytes c.args.index ws)
    (wrote_then
    (wrote_as (numbers_same c.args.index ws c.read.result c.read.ensures) c.write_numbers.ensures.bytes)
    (wrote_as (ap (λ (x : List ℕ). write_command (command_in x)) (command_rest ws c.told-row)) c.write_command.ensures))
