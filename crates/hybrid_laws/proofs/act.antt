-- Act: a worker takes a step on the files for its request.
pub mod Act
pub mod Whole
