pub mod RunsOf
pub mod Whole
mod Cuts
mod CutMarks
mod Rest
pub mod Maps
pub mod Counts
mod LostParts
mod Steady
pub mod RoundedFit
pub mod GranuleSizes
