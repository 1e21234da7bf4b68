pub mod FileCalls
pub mod Numbers
