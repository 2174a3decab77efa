use Rattle.std.proofs.Common.{◌≡◌, ℕ, ◌≤◌, List, [], length, get_or, Some, sym, ap, ◌∙◌, inl, inr, arith}
use Rattle.raft_log.specs.Rows.{row_in}
use Rattle.raft_log.specs.Places.{words_of}
use Rattle.raft_log.specs.Numbers.{term_in}
use Rattle.raft_log.proofs.Lent.{row_lent}
use Rattle.raft_log.proofs.find.term_at.Goals as goal
use Rattle.raft_log.proofs.Places.{entry_at_in}
use Rattle.raft_log.proofs.Found.{none_at}

pub returns-in_err-checked_sub : goal.returns-in_err-checked_sub
returns-in_err-checked_sub c =
    let first = c.in_err-checked_sub.ensures in
    let none : c.args.index ≡ 0 = omega arith in
    c.from_residual.ensures ∙ sym (ap term_in (none_at c.args.index (length c.args.log.now) (words_of c.args.log.now) (inl none)))

pub returns-in_err-row : goal.returns-in_err-row
returns-in_err-row c =
    let before = c.in_ok-checked_sub.ensures in
    let at = before.1 in
    let past = c.in_err-row.ensures.lookup.3 in
    c.from_residual-in_err-row.ensures
    ∙ sym (ap term_in (none_at c.args.index (length c.args.log.now) (words_of c.args.log.now) (inr (omega arith))))

pub returns : goal.returns
unfolding row_in
returns c =
    let rows : List (List ℕ) = c.args.log.now in
    let before = c.in_ok-checked_sub.ensures in
    let some = before.0 in
    let at = before.1 in
    let there = c.in_ok-row.ensures.lookup.3 in
    let within = there.0 in
    let most : c.args.index ≤ length rows = omega arith in
    ap (λ (row : List ℕ). Some (get_or row 0 0))
    (there.1 [] ∙ (ap (λ (j : ℕ). get_or rows j []) at ∙ sym (row_lent c.args.index rows c.told-log (omega arith) most)))
    ∙ sym (ap term_in (entry_at_in c.args.index (length rows) (words_of rows) (omega arith) most))
