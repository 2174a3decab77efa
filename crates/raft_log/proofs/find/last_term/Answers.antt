use Rattle.std.proofs.Common.{ℕ, List, length, get_or, sym, ap, ◌∙◌, arith}
use Rattle.raft_log.specs.Rows.{row_in}
use Rattle.raft_log.specs.Places.{words_of}
use Rattle.raft_log.proofs.Lent.{row_lent}
use Rattle.raft_log.proofs.find.last_term.Goals as goal
use Rattle.raft_log.proofs.Found.{last_none, last_some}

pub returns-in-empty : goal.returns-in-empty
returns-in-empty c =
    let none = c.in-empty.len_below in sym (last_none (length c.args.log.now) (words_of c.args.log.now) (omega arith))

pub returns-in-len1-up : goal.returns-in-len1-up
unfolding row_in
returns-in-len1-up c =
    let rows : List (List ℕ) = c.args.log.now in
    let some = c.in-len1-up.len_at_least in
    ap (λ (row : List ℕ). get_or row 0 0) (sym (row_lent (length rows) rows c.told-log (omega arith) (omega arith)))
    ∙ sym (last_some (length rows) (words_of rows) (omega arith))
