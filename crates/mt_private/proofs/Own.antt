pub mod Accesses
pub mod Buses
pub mod Jobs
pub mod Owners
pub mod Turns
pub mod Updated
pub mod Whole
pub mod Words
