pub mod Bounds
pub mod Conditions
pub mod GoAhead
pub mod Shows
