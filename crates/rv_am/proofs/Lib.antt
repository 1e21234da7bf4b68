pub mod FoundRows
pub mod WordFields
pub mod HighProducts
