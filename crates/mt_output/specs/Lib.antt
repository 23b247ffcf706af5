pub mod Lines
pub mod Ports
pub mod Program
pub mod Writing
pub mod Written
