pub mod Beginnings
pub mod Histories
pub mod Codes
pub mod Commits
