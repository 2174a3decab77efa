pub mod Bytes
pub mod Cells
pub mod Order
pub mod Parts
