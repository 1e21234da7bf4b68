pub mod Totals
pub mod Shown
pub mod Room
pub mod Steps
pub mod Passes
