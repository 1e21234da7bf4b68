pub mod Counts
pub mod Keys
pub mod Lowest
pub mod Tables
pub mod Showing
