pub mod Ranges
pub mod Stages
pub mod StreamBytes
