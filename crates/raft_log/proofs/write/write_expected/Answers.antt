use Rattle.std.proofs.Common.{Bool, [], sym, ap, arith}
use Rattle.std.proofs.lemmas.Bool.{ne_eqb}
use Rattle.servers.specs.Store.{pick}
use Rattle.texts.specs.Words.{perhaps_in}
use Rattle.wire.specs.Write.{write_perhaps}
use Rattle.wire_write.proofs.Putting.{wrote_none, wrote_as}
use Rattle.raft_log.proofs.write.write_expected.Goals as goal

pub returns-else-tag-eq3 : goal.returns-else-tag-eq3
returns-else-tag-eq3 c =
    let room = c.requires.room in
    let other = ne_eqb c.args.tag 3 c.if-tag-eq3.false in
    wrote_as (sym (ap (λ (b : Bool). pick b (write_perhaps (perhaps_in c.args.words.now)) []) other))
    (wrote_none c.args.to.now (omega arith))
