pub mod Partitions
pub mod Codes
pub mod Courses
pub mod Instances
pub mod Slotted
pub mod Keeping
