pub mod Opening
pub mod Tests
