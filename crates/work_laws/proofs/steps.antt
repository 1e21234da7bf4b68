-- The steps of the one-kernel machine, each by how much less or more it leaves to do.
pub mod Pay
pub mod Each
pub mod ByStep
pub mod OneProcess
