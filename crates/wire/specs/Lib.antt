pub mod Write
pub mod Read
pub mod Codec
pub mod Answers
pub mod Sizes
