pub mod Counted
pub mod RunEvents
pub mod Stored
pub mod ThreadRuns
