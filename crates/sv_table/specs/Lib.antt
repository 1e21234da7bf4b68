pub mod Words
pub mod Walks
pub mod Trees
pub mod Room
pub mod Changes
