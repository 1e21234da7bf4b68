pub mod Copies
pub mod Fills
pub mod Frames
pub mod Lacks
pub mod Rows
pub mod Spaced
