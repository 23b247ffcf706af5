pub mod Dues
pub mod Runs
pub mod Speculation
pub mod Steps
