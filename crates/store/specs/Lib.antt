pub mod Region
pub mod Laws
pub mod Calls
