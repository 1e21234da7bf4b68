pub mod Assembly
pub mod Growing
pub mod Images
pub mod Labels
pub mod Lines
pub mod Listing
pub mod Names
pub mod Numbers
