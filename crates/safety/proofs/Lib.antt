-- In the order of the argument.

-- helpers: tests, tables, letters and logs as lists, quorums
pub mod Tables
pub mod Letters
pub mod Logs
pub mod Quorums
-- what the proof remembers, and what it keeps
pub mod Ghost
pub mod Invariant
-- what follows from the invariant in one world
pub mod Prefixes
pub mod LogMatching
pub mod LeaderCompleteness
pub mod Commits
-- what one server's step leaves, and what it owes
pub mod Growth
pub mod Frame
pub mod Turn
-- each event, by itself
pub mod Voting
pub mod Timeout
pub mod VoteRequest
pub mod LeaderLog
pub mod VoteReply
pub mod ClientRequest
pub mod AppendedLog
pub mod AppendRequest
pub mod AppendReply
pub mod Commit
pub mod Replication
pub mod Restart
pub mod Unseen
-- all events, all worlds
pub mod Induction
pub mod Event
pub mod Worlds
pub mod Monotone
-- the statements
pub mod OverTime
pub mod Promises
