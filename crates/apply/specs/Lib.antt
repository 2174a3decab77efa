pub mod Applied
pub mod Means
pub mod InMemory
pub mod Rooms
