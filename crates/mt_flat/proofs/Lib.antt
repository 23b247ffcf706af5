pub mod PendingLists
pub mod Emptying
pub mod Storing
pub mod Accessing
pub mod Seeing
pub mod Updating
pub mod ComingAndGoing
pub mod Coursing
