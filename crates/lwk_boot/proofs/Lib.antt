pub mod Copies
pub mod GuestPages
pub mod InOrder
pub mod LeftOver
pub mod Loading
pub mod TopBytes
pub mod TopLoops
