pub mod Checks
pub mod Grow
pub mod Reading
pub mod Status
pub mod Writing
