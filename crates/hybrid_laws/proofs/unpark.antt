-- Unpark: a parked request goes on.
pub mod Unpark
pub mod Whole
