pub mod Adding
pub mod Candidates
pub mod Counted
pub mod Fetching
pub mod Goings
pub mod RunLists
