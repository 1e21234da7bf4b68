pub mod Groups
pub mod Least
pub mod Laws
