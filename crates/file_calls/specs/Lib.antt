pub mod FileSteps
pub mod Names
pub mod Pieces
pub mod Placed
pub mod Rooms
pub mod Walks
