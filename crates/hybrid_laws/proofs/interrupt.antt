-- Interrupt: a call is marked, and its Interrupt is posted; or a rest ends.
pub mod Interrupt
pub mod Posted
pub mod Whole
