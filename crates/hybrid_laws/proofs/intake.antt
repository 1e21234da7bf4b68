-- Intake: the lightweight kernel takes a message. A file for each kind of message: a Reply, a Fault, an Ack, with which a round is over.
pub mod Intake
pub mod Reply
pub mod Fault
pub mod Ack
pub mod RoundOver
pub mod WholeReply
pub mod WholeFault
pub mod WholeAck
