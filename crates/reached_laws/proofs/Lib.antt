pub mod Gaps
pub mod Mapping
pub mod Limit
pub mod TrapCounts
pub mod EventCounts
pub mod Executed
pub mod Rounds
