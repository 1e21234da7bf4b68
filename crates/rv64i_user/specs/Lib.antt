pub mod Stopping
pub mod Places
pub mod Runs
pub mod Seen
pub mod Slots
pub mod Lines
