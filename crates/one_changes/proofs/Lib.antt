mod Falling
mod Lessening
mod Ranged
