-- Threads, processes and signals.
pub mod Left
pub mod Steps
pub mod CallsAdd
pub mod Signals
pub mod Settled
pub mod Calmer
pub mod EachCalmer
pub mod Paying
