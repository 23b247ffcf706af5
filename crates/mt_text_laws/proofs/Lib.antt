pub mod Ends
pub mod Good
pub mod Moving
pub mod Slices
pub mod Standing
