pub mod Entries
pub mod Handing
pub mod Laws
pub mod Outcomes
