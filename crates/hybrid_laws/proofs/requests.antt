-- The requests of a process: where one changes its state, what stays and what is shown.
pub mod Requests
pub mod OneRequest
pub mod Serving
pub mod Ready
pub mod HeldStep
pub mod Statuses
pub mod Leaving
pub mod Silent
pub mod Speaking
pub mod Showing
