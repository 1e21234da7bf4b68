-- Words on maps and tests that all laws use: what a test says, what a changed map answers, sums over rows.
pub mod Tests
pub mod Reading
pub mod Lookups
pub mod Sums
pub mod Totals
pub mod LowestFree
