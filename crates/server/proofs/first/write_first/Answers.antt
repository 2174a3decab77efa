use Rattle.std.proofs.Common.{sym, arith}
use Rattle.servers.specs.Server.{vote, appended}
use Rattle.wire_write.proofs.Putting.{wrote_as}
use Rattle.server.proofs.Sent.{letters_none, letters_one, length_vote, length_reply}
use Rattle.server.proofs.first.write_first.Goals as goal

pub write_vote_letter-requires : goal.write_vote_letter-requires
write_vote_letter-requires c =
    let a = c.in-Vote in
    let p = rw c.in-Vote.is at c.requires.room in
    let e = length_vote a.h a.term a.granted in
    omega arith

pub write_appended_letter-requires : goal.write_appended_letter-requires
write_appended_letter-requires c =
    let a = c.in-Reply in
    let p = rw c.in-Reply.is at c.requires.room in
    let e = length_reply a.h a.term a.index a.ok in
    omega arith

pub returns-in-Nothing : goal.returns-in-Nothing
returns-in-Nothing c =
    let p = c.requires.room in
    rw c.in-Nothing.is (letters_none c.args.to.now (omega arith))

pub returns-in-Vote : goal.returns-in-Vote
returns-in-Vote c =
    let a = c.in-Vote in
    rw c.in-Vote.is (wrote_as (sym (letters_one a.h (vote a.term a.granted))) c.write_vote_letter.ensures.bytes)

pub returns-in-Reply : goal.returns-in-Reply
returns-in-Reply c =
    let a = c.in-Reply in
    rw c.in-Reply.is
    (wrote_as (sym (letters_one a.h (appended a.term a.index a.ok))) c.write_appended_letter.ensures.bytes)
