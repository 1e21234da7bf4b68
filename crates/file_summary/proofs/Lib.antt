pub mod ByKey
pub mod Places
pub mod Ordered
pub mod Consoles
