pub mod Put
pub mod Heads
pub mod Answers
