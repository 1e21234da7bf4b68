pub mod SignalCount
pub mod KernelLeft
pub mod Weights
pub mod Left
pub mod WholePages
