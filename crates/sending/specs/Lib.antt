pub mod Letters
pub mod Others
