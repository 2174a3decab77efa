use Rattle.std.proofs.Common.{ℕ, List, ap, ◌∙◌}
use borrow.Rule.Slice.PartMut.{put_mid}
use Rattle.wire_read.specs.Means.{command_of}
use Rattle.raft_log.specs.Rows.{row_words, command_words}
use Rattle.raft_log.proofs.row.pack_row.Goals as goal
use Rattle.raft_log.proofs.Written.{row_written}

pub returns : goal.returns
unfolding row_words
returns c i =
    ap (λ (z : List ℕ). put_mid 4 76 z c.pack_command.new.words) c.write.ensures
    ∙ row_written c.args.row.now c.pack_command.new.words (command_words (command_of c.args.command))
    c.args.numbers.term c.args.numbers.server c.args.numbers.client c.args.numbers.number
    c.requires c.pack_command.ensures
