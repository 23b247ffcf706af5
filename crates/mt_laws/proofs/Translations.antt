pub mod Tidy
pub mod TidySteps
pub mod Views
