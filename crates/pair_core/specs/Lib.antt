pub mod KernelRoom
pub mod Booting
pub mod Kept
pub mod LinuxRoom
pub mod Newborn
pub mod Ready
pub mod Shown
pub mod There
