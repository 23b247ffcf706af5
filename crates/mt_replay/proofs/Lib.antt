pub mod Asked
pub mod Calls
mod DirtyCounts
mod Doing
pub mod Eras
pub mod Files
pub mod FirstFault
pub mod FirstRefusal
pub mod Heads
pub mod Keeping
pub mod Lines
pub mod Newcomers
pub mod Refusals
pub mod RunningLaws
pub mod Sums
pub mod Taking
pub mod Walks
