-- AckClear: no pin lies in the closed range, and the Ack goes back.
pub mod AckClear
pub mod Whole
