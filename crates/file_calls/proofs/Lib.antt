pub mod EntryRecords
pub mod PathNames
pub mod WalkSteps
