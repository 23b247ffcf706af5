pub mod Acting
pub mod Barriers
pub mod Claims
pub mod Counts
pub mod Ranks
pub mod Stages
pub mod Still
pub mod Takes
