pub mod Arising
pub mod Eras
pub mod Progress
pub mod Reaching
pub mod Settling
pub mod Stepping
pub mod Stopping
mod Tables
pub mod Turns
pub mod Waiting
mod Work
