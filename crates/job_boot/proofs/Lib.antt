mod Descriptors
pub mod Lists
pub mod Nodes
pub mod Rows
