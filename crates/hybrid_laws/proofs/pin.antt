-- Pin: a worker pins the frame of a row of the mirror.
pub mod Pin
pub mod Whole
