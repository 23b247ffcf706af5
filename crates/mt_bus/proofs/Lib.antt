pub mod Changed
mod Counts
mod Newcomers
mod Combining
mod Emptying
pub mod Grown
mod Lines
mod Misses
mod Masks
pub mod Held
mod Others
mod Skipped
mod Holding
mod Places
mod Refusing
pub mod Stepping
mod Rooms
pub mod Tables
mod Translated
mod Ruling
