use Rattle.std.proofs.Common.{ℕ, List, get_or, sym, ap}
use Rattle.raft_log.specs.Rows.{row_in}
use Rattle.raft_log.proofs.Lent.{row_lent}
use Rattle.raft_log.proofs.find.term.Goals as goal

pub returns : goal.returns
unfolding row_in
returns c =
    ap (λ (row : List ℕ). get_or row 0 0) (sym (row_lent c.args.index c.args.log.now c.told-log c.requires.some c.requires.there))
