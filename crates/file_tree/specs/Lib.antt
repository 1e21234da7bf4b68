pub mod Counting
pub mod CountLaws
pub mod Codes
pub mod Tables
pub mod Shown
pub mod Tags
pub mod Index
pub mod Trees
