-- Fetch lessens the work, whichever message is taken.
pub mod Fetch
pub mod Answer
pub mod Clear
pub mod Interrupt
pub mod Request
