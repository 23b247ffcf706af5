mod Accessed
mod Again
mod Alone
mod Carried
pub mod Causes
pub mod Copies
pub mod Ended
mod Left
mod Lists
mod Meeting
mod Nearer
pub mod Own
mod Walk
pub mod Residents
mod Returned
