pub mod Manual
pub mod Orderly
pub mod WorkedManual
