pub mod Seen
pub mod Plain
pub mod Asked
pub mod Own
pub mod Running
pub mod Later
pub mod Made
