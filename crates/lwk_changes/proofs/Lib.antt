pub mod Counting
pub mod HighestGap
pub mod Making
pub mod Shown
