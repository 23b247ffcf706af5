mod Broadcasts
mod Running
pub mod Ended
pub mod Keeps
pub mod Local
pub mod Steps
pub mod RootSteps
pub mod Told
mod Facts
mod Carried
mod Stored
mod Ends
pub mod Unique
pub mod Handed
pub mod Begun
mod Renewed
mod Unshared
