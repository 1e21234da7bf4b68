-- Whole journals, and that nothing stalls.
pub mod Still
pub mod NoStall
pub mod Journal
