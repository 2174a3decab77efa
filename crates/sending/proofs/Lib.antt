pub mod Letters
pub mod Rows
pub mod ToAll
pub mod Later
pub mod Fitting
