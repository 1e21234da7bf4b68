pub mod Looked
pub mod Put
pub mod Taken
