pub mod Combined
pub mod ContextLaws
pub mod Joins
pub mod OverRuns
pub mod WishLaws
