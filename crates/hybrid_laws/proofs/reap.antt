-- Reap: a dying process ends.
pub mod Reap
pub mod EndedNode
pub mod Whole
