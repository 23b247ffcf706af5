mod Mapping
pub mod Turns
mod Zeros
