pub mod Got
pub mod Means
