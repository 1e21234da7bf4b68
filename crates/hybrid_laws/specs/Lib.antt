pub mod EventKinds
pub mod Simulated
pub mod OneProcess
pub mod CallSteps
pub mod Lasting
pub mod Journals
pub mod Stopped
