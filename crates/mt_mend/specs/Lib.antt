pub mod Wishes
pub mod Mended
pub mod Writes
pub mod Courses
pub mod Settled
pub mod Nearest
