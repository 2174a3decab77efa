pub mod Lent
pub mod Journals
pub mod Parts
pub mod Letters
pub mod Explained
pub mod Turning
pub mod Playing
pub mod Opening
