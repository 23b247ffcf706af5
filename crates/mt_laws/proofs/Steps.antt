pub mod Counts
pub mod DirtyCounts
pub mod StepCounts
pub mod StepTotals
