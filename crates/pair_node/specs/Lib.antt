pub mod Room
pub mod Steps
pub mod Summed
pub mod Listed
