pub mod Parts
pub mod Acts
pub mod PiecesCopied
pub mod RoomMade
