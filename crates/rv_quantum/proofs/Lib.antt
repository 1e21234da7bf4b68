pub mod Rows
pub mod Stored
pub mod Counts
pub mod Grown
pub mod Totals
