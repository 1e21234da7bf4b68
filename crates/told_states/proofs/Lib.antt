pub mod Told
pub mod ToldProcess
pub mod ToldRequests
pub mod ToldState
