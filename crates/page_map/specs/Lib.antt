pub mod Counts
pub mod NextLaws
pub mod Tables
