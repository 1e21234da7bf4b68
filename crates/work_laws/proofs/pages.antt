-- Each page has its 4,096 bytes.
pub mod Memory
pub mod Steps
pub mod Boot
pub mod Whole
