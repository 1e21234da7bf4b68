-- The rings of a process: what they hold, and what stays where a message is posted or taken.
pub mod InRings
pub mod Placing
pub mod Taking
pub mod Back
