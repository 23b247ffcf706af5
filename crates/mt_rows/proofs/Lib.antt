pub mod Aparts
pub mod Cuts
pub mod Prints
pub mod Scans
