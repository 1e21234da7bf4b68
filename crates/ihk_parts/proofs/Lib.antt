pub mod Offered
pub mod Passed
pub mod Places
pub mod Quiet
pub mod Rising
pub mod Turned
pub mod Walked
