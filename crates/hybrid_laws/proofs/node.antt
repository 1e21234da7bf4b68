-- The node: its threads, what keeps it, and what calls, signals and deliveries do to it.
pub mod Threads
pub mod Keeps
pub mod Primitives
pub mod LocalKeeps
pub mod EventKeeps
pub mod Sound
pub mod Goes
