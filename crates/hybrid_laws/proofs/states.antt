-- From one process to the whole state.
pub mod Simulated
pub mod Pair
pub mod Node
pub mod Born
pub mod Calls
pub mod Turns
pub mod Step
pub mod Steps
pub mod Silent
pub mod Quiet
pub mod Effect
