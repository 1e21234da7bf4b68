pub mod ActSteps
pub mod Buffers
pub mod PageBytes
pub mod PhaseCases
pub mod StreamSteps
pub mod VectorSteps
