-- Fetch: the proxy takes a message. A file for each kind of message: an Answer, a Clear, an Interrupt, a Request.
pub mod Fetch
pub mod Answer
pub mod AnswerKeeps
pub mod AnswerShown
pub mod Clear
pub mod Interrupt
pub mod Request
pub mod RequestShown
pub mod Whole
