pub mod Counting
pub mod RingRoom
pub mod SameReport
