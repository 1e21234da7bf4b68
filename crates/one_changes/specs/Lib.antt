pub mod Between
pub mod Lessened
