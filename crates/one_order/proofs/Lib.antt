-- In the order of the argument.

-- orders, which know nothing of servers: replies, sessions, and the order of a log
pub mod Lists
pub mod Sequences
pub mod Sessions
pub mod Orders
-- one server: it applies entries, those that are due, at every event; and where its entries come from
pub mod Applying
pub mod Due
pub mod Steps
pub mod Events
pub mod Entries
-- all servers, over time: what is committed, was asked, is applied, and was told
pub mod Runs
pub mod Agreement
pub mod Committed
pub mod Asked
pub mod StateMachines
pub mod Told
pub mod RealTime
-- the statements
pub mod Promises
