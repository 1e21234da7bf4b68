pub mod Deciding
pub mod Facts
