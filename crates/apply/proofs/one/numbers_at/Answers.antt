use Rattle.std.proofs.Common.{◌≡◌, ℕ, List, ap, ◌∙◌, arith}
use Rattle.raft_log.specs.Rows.{row_in}
use Rattle.raft_log.specs.Places.{entry_in}
use Rattle.raft_log.specs.declared.row.Numbers.{Numbers}
use Rattle.raft_log.specs.Numbers.{numbers_of}
use Rattle.state.specs.Memory.{log_part}
use Rattle.apply.proofs.Doing.{client_held}
use Rattle.apply.proofs.one.numbers_at.Goals as goal

pub returns : goal.returns
returns c =
    let i : ℕ = c.args.index in
    let there = c.requires.there in
    let long = c.log.ensures.long in
    let e : ◌≡◌ {A = Numbers} c.numbers_at.result (numbers_of (entry_in i (log_part c.args.mem.now))) =
    c.numbers_at.ensures
    ∙ ap (λ (z : List ℕ). numbers_of (row_in i z)) (c.log.ensures.rows i c.requires.some (omega arith)) in
    record { value = e; client = client_held c.args.mem.now.words.now i c.numbers_at.result c.args.mem.now.held c.requires.some c.requires.there e }
