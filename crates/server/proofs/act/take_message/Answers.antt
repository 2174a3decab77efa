use Rattle.server.proofs.act.take_message.Goals as goal

pub returns-in-AskVote : goal.returns-in-AskVote
returns-in-AskVote c = rw c.in-AskVote.is c.on_ask.ensures

pub returns-in-Vote : goal.returns-in-Vote
returns-in-Vote c = rw c.in-Vote.is c.on_vote.ensures

pub returns-in-Append : goal.returns-in-Append
returns-in-Append c = rw c.in-Append.is c.on_append.ensures

pub returns-in-Appended : goal.returns-in-Appended
returns-in-Appended c = rw c.in-Appended.is c.on_appended.ensures
