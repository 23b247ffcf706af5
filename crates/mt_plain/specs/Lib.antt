pub mod Due
pub mod Did
pub mod Maps
pub mod Plain
pub mod Tidying
pub mod Rounding
pub mod WorkedTurns
