pub mod Calls
pub mod Joins
pub mod Releases
pub mod Since
pub mod Updates
