-- The events of one file: each lessens the work.
pub mod AckClear
pub mod Act
pub mod Answer
pub mod Assign
pub mod BeginVm
pub mod Finish
pub mod Intake
pub mod Miss
pub mod Pin
pub mod Unpark
pub mod Unpin
pub mod Family
