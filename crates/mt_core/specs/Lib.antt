pub mod Arises
pub mod Barriers
pub mod Headline
pub mod Rounds
pub mod Since
pub mod Steps
pub mod Stops
