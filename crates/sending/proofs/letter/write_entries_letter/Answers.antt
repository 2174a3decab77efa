use Rattle.std.proofs.Common.{length, refl, ap, arith}
use Rattle.servers.specs.Server.{Message, to_server}
use Rattle.wire.specs.Write.{write_message}
use Rattle.raft_log.specs.Places.{log_of}
use Rattle.state.specs.View.{state_of}
use Rattle.sending.proofs.letter.write_entries_letter.Goals as goal
use Rattle.sending.proofs.Letters.{sealed, same_append, length_post}
use Rattle.sending.proofs.Rows.{lent_sound}

pub write_append-requires : goal.write_append-requires
write_append-requires c =
    let m = c.args.mem in
    let e = same_append m (log_of c.log.result.now) c.args.h c.term-term.result c.sent_before-before.result
    c.commit-commit.result c.log.ensures.log c.term-term.ensures.value c.sent_before-before.ensures c.commit-commit.ensures.value in
    let l = ap (λ (x : Message). length (write_message x)) e in
    let p = length_post c.args.h (to_server (state_of m) c.args.h) in
    let room = c.requires.room in
    record {
      sound = lent_sound m.words.now c.log.result.now c.args.mem.held c.log.ensures.long c.log.ensures.rows;
      room = omega arith;
    }

pub returns : goal.returns
returns c =
    sealed
    (same_append c.args.mem (log_of c.log.result.now) c.args.h c.term-term.result c.sent_before-before.result
    c.commit-commit.result c.log.ensures.log c.term-term.ensures.value c.sent_before-before.ensures c.commit-commit.ensures.value)
    refl refl c.write_append.ensures c.seal.ensures.head c.seal.ensures.same c.seal.ensures.end
