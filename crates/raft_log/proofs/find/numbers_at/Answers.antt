use Rattle.std.proofs.Common.{sym, ap, ◌∙◌}
use Rattle.raft_log.specs.Rows.{row_in}
use Rattle.raft_log.specs.Numbers.{numbers_in}
use Rattle.raft_log.proofs.Lent.{row_lent}
use Rattle.raft_log.proofs.find.numbers_at.Goals as goal

pub returns : goal.returns
unfolding row_in
returns c =
    c.read.ensures
    ∙ ap numbers_in (sym (row_lent c.args.index c.args.log.now c.told-log c.requires.some c.requires.there))
