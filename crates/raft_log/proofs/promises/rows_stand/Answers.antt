use Rattle.raft_log.proofs.promises.rows_stand.Goals as goal
use Rattle.raft_log.proofs.Rows.{log_again, log_low}
use Rattle.raft_log.proofs.Places.{cut, entry_at_in, up_to_in, due_in}
use Rattle.raft_log.proofs.Found.{none_at}

pub returns : goal.returns
returns c =
    record { back = log_again; fit = log_low; found = entry_at_in; none = none_at; first = up_to_in; parts = cut; due = due_in }
