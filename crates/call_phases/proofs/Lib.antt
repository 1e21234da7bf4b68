pub mod RangeLists
pub mod StreamLens
