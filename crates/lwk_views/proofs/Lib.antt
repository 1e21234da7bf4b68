pub mod Reading
pub mod Doing
