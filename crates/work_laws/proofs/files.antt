-- Files: what may still be cut of the pieces of streams.
pub mod Adding
pub mod Begin
pub mod Same
pub mod StreamsAdd
pub mod StreamsLess
pub mod StreamCuts
pub mod CutGets
pub mod CutPuts
pub mod Quieter
