-- Pages and frames of a process: taken away, added, copied, handed out, given back, written.
pub mod Dropping
pub mod Adding
pub mod Effects
pub mod EffectCounts
pub mod Copying
pub mod Freeing
pub mod FreshFrames
pub mod HandedOut
pub mod Written
pub mod Shapes
pub mod ViewShown
pub mod NewSide
