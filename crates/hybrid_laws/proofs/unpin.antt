-- Unpin: a pin goes.
pub mod Unpin
pub mod Whole
