pub mod Outside
pub mod Devices
