-- What a Trap adds at most.
pub mod Adds
pub mod Ends
pub mod Pays
pub mod Sides
