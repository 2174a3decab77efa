use Rattle.std.proofs.Common.{ℕ, ◌+◌, ◌-◌, ◌*◌, List, length, replicate, ap, ◌∙◌, arith}
use borrow.Rule.Slice.PartMut.{put_mid}
use Rattle.std.proofs.lemmas.List.{length-append, length-replicate}
use Rattle.wire_read.specs.Means.{command_of}
use Rattle.raft_log.specs.Rows.{log_words}
use Rattle.raft_log.specs.Numbers.{entry_by}
use Rattle.raft_log.proofs.append.push.Goals as goal
use Rattle.raft_log.proofs.Rows.{length_log_words}
use Rattle.raft_log.proofs.Regions.{pushed}

pub returns : goal.returns
returns c room i es long is =
    let at : ℕ = c.place-at.result in
    let e = c.place-at.ensures in
    let fits = c.requires.room in
    let l = ap length is in
    let w = length-append (log_words es) (replicate {A = ℕ} (80 * (room - length es)) 0) in
    let z = length-replicate {A = ℕ} (80 * (room - length es)) 0 in
    let k = length_log_words es in
    ap (λ (z : List ℕ). put_mid at (at + 80 - at) z c.pack_row.new.row) is
    ∙ pushed room es (entry_by c.args.numbers i (command_of c.args.command)) c.pack_row.new.row
    at (at + 80 - at) (omega arith) (omega arith) (omega arith) (c.pack_row.ensures i)
