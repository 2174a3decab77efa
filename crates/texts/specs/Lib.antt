pub mod Words
pub mod Order
pub mod Means
pub mod Commands
