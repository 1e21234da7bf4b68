pub mod ChangeFits
pub mod Small
