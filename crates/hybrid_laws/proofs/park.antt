-- Park: a request that can't go on is parked, or an interrupted one ends.
pub mod Park
pub mod Whole
