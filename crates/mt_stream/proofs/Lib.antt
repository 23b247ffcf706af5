pub mod Fronts
pub mod KnownLines
pub mod Loops
pub mod Rounds
pub mod Taking
pub mod Telling
pub mod Whole
