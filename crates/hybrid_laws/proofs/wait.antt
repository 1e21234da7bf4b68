-- Wait: a thread that waits for a child goes on.
pub mod Wait
pub mod Whole
