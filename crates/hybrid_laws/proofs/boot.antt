-- The boot.
pub mod Coherent
pub mod Files
pub mod Pages
pub mod Sides
