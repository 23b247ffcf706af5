pub mod Courses
pub mod Keeping
pub mod Rowing
mod Counts
