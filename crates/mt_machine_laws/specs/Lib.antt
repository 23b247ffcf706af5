pub mod AdmitWorkedRuns
pub mod CoreWorkedLaws
pub mod CoreWorkedRuns
pub mod MachineWorkedRuns
pub mod RunWorkedRuns
pub mod WorkedRefusals
pub mod WorkedSetups
pub mod WorkedUpdates
