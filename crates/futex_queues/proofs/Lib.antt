pub mod Wakes
pub mod Queues
