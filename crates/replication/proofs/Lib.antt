pub mod Settling
pub mod Hearing
