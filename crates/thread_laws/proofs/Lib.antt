pub mod Members
pub mod Stays
pub mod Others
pub mod Trapping
pub mod Ends
pub mod Laws
