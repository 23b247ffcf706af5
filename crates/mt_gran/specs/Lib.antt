pub mod Granules
pub mod Sizes
pub mod Parts
pub mod Listed
pub mod Marks
pub mod Grained
