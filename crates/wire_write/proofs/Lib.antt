pub mod Putting
pub mod Answering
pub mod Texts
