pub mod Joined
pub mod Twice
pub mod OneProcess
pub mod GoingOn
pub mod Whole
pub mod Many
