pub mod Checks
pub mod Kept
pub mod Lines
pub mod Order
pub mod Paths
pub mod Reading
pub mod TextLines
pub mod Words
