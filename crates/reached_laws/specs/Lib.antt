pub mod Executed
pub mod Mapping
pub mod Rounds
