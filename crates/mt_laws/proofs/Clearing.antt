pub mod Cleared
pub mod Follows
pub mod Fresh
pub mod Late
pub mod Renewed
