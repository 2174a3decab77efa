pub mod Records
pub mod Taking
