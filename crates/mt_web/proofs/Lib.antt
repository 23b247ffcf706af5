pub mod Answered
pub mod Drawn
pub mod Imported
pub mod Outcomes
pub mod Pieces
pub mod Splitting
