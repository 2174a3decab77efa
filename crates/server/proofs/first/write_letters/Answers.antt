use Rattle.std.proofs.Common.{List, arith}
use Rattle.std.proofs.lemmas.List.{length-append}
use Rattle.servers.specs.Server.{Letter}
use Rattle.state.specs.View.{limits_of, state_of}
use Rattle.wire_write.proofs.Putting.{length_wrote}
use Rattle.server.specs.First.{first_of, entries_if}
use Rattle.server.proofs.Sent.{length_letters, all_sent}
use Rattle.server.proofs.first.write_letters.Goals as goal

pub write_first-requires : goal.write_first-requires
write_first-requires c =
    let m = c.args.mem in
    let ls : List Letter = first_of (limits_of m) (state_of m) c.args.first in
    let es : List Letter = entries_if c.args.send (limits_of m) (state_of m) in
    let n = length_letters ls es in
    let p = c.requires.room in
    let w = c.number.ensures.at in
    let same = length_wrote c.number.ensures.bytes in
    record { room = omega arith }

pub write_entries_if-requires : goal.write_entries_if-requires
write_entries_if-requires c =
    let m = c.args.mem in
    let ls : List Letter = first_of (limits_of m) (state_of m) c.args.first in
    let es : List Letter = entries_if c.args.send (limits_of m) (state_of m) in
    let n = length_letters ls es in
    let p = c.requires.room in
    let w = c.number.ensures.at in
    let v = c.write_first.ensures.writes.next in
    let same = length_wrote c.number.ensures.bytes in
    let also = length_wrote c.write_first.ensures in
    record { room = omega arith }

pub returns : goal.returns
returns c =
    let m = c.args.mem in
    let ls : List Letter = first_of (limits_of m) (state_of m) c.args.first in
    let es : List Letter = entries_if c.args.send (limits_of m) (state_of m) in
    let n = length-append ls es in
    let a = c.count_first.ensures.value in
    let b = c.count_entries.ensures.value in
    record {
      count = omega arith;
      bytes = all_sent ls es (omega arith) c.number.ensures.bytes c.write_first.ensures c.write_entries_if.ensures;
    }
