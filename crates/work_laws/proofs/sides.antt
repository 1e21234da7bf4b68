-- The requests, messages, faults, pins and rounds of the sides.
pub mod Rows
pub mod Services
pub mod Many
pub mod AnyRank
pub mod Late
pub mod Shown
pub mod Lwk
pub mod New
pub mod Wholes
