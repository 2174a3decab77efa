use Rattle.std.proofs.Common.{ℕ, ◌-◌, List, length, sym, ap, ◌∙◌, arith}
use Rattle.servers.specs.Server.{Entry, above, entry_at, term_of}
use Rattle.raft_log.specs.Places.{words_of, log_of}
use Rattle.raft_log.proofs.Places.{log_in_row}
use Rattle.wire_write.proofs.Putting.{length_wrote}
use Rattle.sending.proofs.append.write_append.Goals as goal
use Rattle.sending.proofs.Letters.{append_written, length_append_message}

pub append_head-requires : goal.append_head-requires
append_head-requires c =
    let log : List Entry = log_of c.args.log.now in
    let i : ℕ = c.args.before in
    let l = length_append_message c.args.term i (term_of (entry_at i log)) c.args.commit (above i log) in
    let room = c.requires.room in
    omega arith

pub write_entries-requires : goal.write_entries-requires
write_entries-requires c =
    let log : List Entry = log_of c.args.log.now in
    let i : ℕ = c.args.before in
    let l = length_append_message c.args.term i (term_of (entry_at i log)) c.args.commit (above i log) in
    let room = c.requires.room in
    let at = c.append_head.ensures.at in
    let same = length_wrote c.append_head.ensures.bytes in
    record { sound = c.requires.sound; room = omega arith }

pub returns : goal.returns
returns c =
    let log : List Entry = log_of c.args.log.now in
    let i : ℕ = c.args.before in
    let row = log_in_row (length c.args.log.now) (words_of c.args.log.now) in
    append_written c.args.term i c.term_or_zero-before_term.result c.args.commit c.saturating_sub-count.result log row.0
    c.term_or_zero-before_term.ensures (c.saturating_sub-count.ensures ∙ ap (λ (n : ℕ). n - i) (sym row.1))
    c.append_head.ensures.bytes c.write_entries.ensures
