pub mod Asked
pub mod Bands
pub mod Map
pub mod Shapes
pub mod Sizes
