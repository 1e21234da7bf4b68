pub mod HighGaps
pub mod Members
pub mod Rising
