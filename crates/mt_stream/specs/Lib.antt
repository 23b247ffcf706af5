pub mod Handling
pub mod Known
pub mod Laws
pub mod Lines
pub mod Results
pub mod Transcript
