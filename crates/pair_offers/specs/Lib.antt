pub mod Seeking
pub mod Stances
pub mod Standing
