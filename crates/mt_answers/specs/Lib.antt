pub mod Answer
pub mod CommandLine
pub mod Generator
pub mod Help
pub mod Lines
pub mod Runs
pub mod Statuses
pub mod Written
