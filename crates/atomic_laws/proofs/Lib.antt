pub mod Doublewords
pub mod Adding
pub mod AddingSteps
pub mod AddingEvents
