pub mod Answering
pub mod Drawing
pub mod Importing
pub mod Outcome
pub mod Placed
pub mod Words
