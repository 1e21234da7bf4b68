-- Assign: a worker takes a request.
pub mod Assign
pub mod Whole
