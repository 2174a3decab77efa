pub mod Logs
pub mod Taking
pub mod Given
