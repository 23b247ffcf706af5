pub mod Blank
pub mod Files
pub mod Rows
