-- Copy lessens the work.
pub mod Copy
pub mod Pays
pub mod Quiet
