pub mod Views
pub mod Words
pub mod Resting
pub mod SignalWords
pub mod Here
pub mod LocalTraps
