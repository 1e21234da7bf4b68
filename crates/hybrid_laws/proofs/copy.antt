-- Copy: the piece goes between the pinned frame and the files.
pub mod Copy
pub mod Shown
pub mod Whole
