-- Delegated calls: how they begin, and what each of their steps leaves.
pub mod Acts
pub mod ActsAdd
pub mod Begins
pub mod Steps
pub mod FileStep
pub mod Settling
pub mod Moves
pub mod Pieces
