-- Delegated calls: what their steps do, and what each event leaves of them.
pub mod Laws
pub mod Steps
pub mod Closed
pub mod Go
pub mod Made
pub mod Taken
pub mod Last
