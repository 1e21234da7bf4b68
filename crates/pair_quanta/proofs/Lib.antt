pub mod Same
pub mod Standing
pub mod Ran
