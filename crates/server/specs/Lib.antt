pub mod Reached
pub mod Answered
pub mod First
pub mod Opening
pub mod Heads
