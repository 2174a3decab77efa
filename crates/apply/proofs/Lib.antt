pub mod Sessions
pub mod Doing
pub mod Turning
pub mod Telling
pub mod Dues
pub mod Going
pub mod Sizes
