pub mod Fields
pub mod Kept
pub mod Profile
pub mod Written
