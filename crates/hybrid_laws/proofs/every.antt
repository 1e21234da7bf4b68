-- What holds of every event: of the Linux side, of the lightweight kernel, of either.
pub mod Linux
pub mod QuietLwk
pub mod HandsOutLwk
pub mod Lwk
pub mod Event
