-- Over events and journals: what is left to do, and the work that was done.
pub mod BootLeft
pub mod EventsLess
pub mod EachLessens
pub mod LeftLess
pub mod PaidWork
pub mod Allowance
