pub mod Station
pub mod Plays
pub mod Calls
pub mod Laws
pub mod Update
pub mod InStation
