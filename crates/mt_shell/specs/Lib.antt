pub mod Own
pub mod Reasons
pub mod Runs
