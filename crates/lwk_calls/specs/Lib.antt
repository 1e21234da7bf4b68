pub mod Words
pub mod SignalWords
pub mod Forks
