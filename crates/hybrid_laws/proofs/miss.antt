-- Miss: the mirror has no row for the next piece, and a Fault is posted.
pub mod Miss
pub mod Whole
