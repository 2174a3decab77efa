pub mod Refusals
pub mod Outcome
pub mod Steps
