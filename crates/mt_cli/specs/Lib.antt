pub mod Measured
pub mod Output
pub mod Runs
pub mod Tool
