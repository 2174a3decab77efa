use Rattle.std.proofs.Common.{arith}
use Rattle.log_tests.proofs.tests.sent.Goals as goal
use Rattle.log_tests.proofs.Held.{held_long, rows_sound}

pub rows-log-requires : goal.rows-log-requires
rows-log-requires c =
    let room = c.requires.room in
    let long = held_long c.args.len c.args.region.now c.requires.held (omega arith) in
    omega arith

pub entries_size-requires : goal.entries_size-requires
entries_size-requires c =
    rows_sound c.args.len c.args.region.now c.rows-log.result.now c.requires.held c.requires.room c.rows-log.ensures.words
    c.rows-log.ensures.long

pub write_entries-requires : goal.write_entries-requires
write_entries-requires c =
    let size = c.entries_size.ensures.exact in
    let fits = c.if-entries_size-out.false in
    record {
      sound = rows_sound c.args.len c.args.region.now c.rows-log.result.now c.requires.held c.requires.room c.rows-log.ensures.words
          c.rows-log.ensures.long;
      room = omega arith;
    }
