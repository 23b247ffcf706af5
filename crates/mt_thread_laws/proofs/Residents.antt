-- What each event of one processor makes of a yard.
pub mod Ends
pub mod Settles
pub mod Steps
pub mod Unique
