pub mod Booting
pub mod Reached
pub mod Stepping
