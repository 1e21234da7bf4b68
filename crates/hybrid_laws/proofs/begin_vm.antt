-- BeginVm: a round begins, and its Clear is posted.
pub mod BeginVm
pub mod Whole
