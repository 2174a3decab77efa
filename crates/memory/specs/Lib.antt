pub mod Words
pub mod Layout
pub mod Fits
pub mod Program
