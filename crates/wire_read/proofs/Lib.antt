mod Reading
pub mod Passing
mod Heads
mod Ends
