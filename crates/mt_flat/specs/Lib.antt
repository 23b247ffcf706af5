pub mod Flat
pub mod Seen
pub mod ComingAndGoing
pub mod Courses
pub mod WorkedRuns
