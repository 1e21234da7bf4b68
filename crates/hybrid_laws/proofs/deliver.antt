-- Deliver: a signal is delivered.
pub mod Deliver
pub mod Whole
