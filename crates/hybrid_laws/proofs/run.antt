-- Run: instructions of a thread on a core.
pub mod Run
pub mod Whole
pub mod WholeSteps
