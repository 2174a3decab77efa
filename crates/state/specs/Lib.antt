pub mod Held
pub mod States
pub mod Memory
pub mod View
pub mod Once
