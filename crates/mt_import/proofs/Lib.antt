pub mod Ends
pub mod Facts
pub mod Held
pub mod Kernels
mod Listed
pub mod Parts
pub mod Puts
pub mod Same
pub mod Settling
pub mod Takes
mod Types
pub mod Words
