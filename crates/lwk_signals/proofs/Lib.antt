pub mod SetBits
pub mod FrameWords
