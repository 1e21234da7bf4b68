pub mod Images
pub mod Promised
pub mod Codes
pub mod Told
pub mod Differing
