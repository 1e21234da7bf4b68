pub mod Cuts
pub mod Entered
pub mod Entries
pub mod Frames
pub mod Journals
pub mod Lines
pub mod NumberTexts
