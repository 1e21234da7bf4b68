-- Finish: the Reply is posted, and the book forgets the request.
pub mod Finish
pub mod Whole
