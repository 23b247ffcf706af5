pub mod Coming
mod Drawing
mod Leaving
mod Owning
mod Ran
mod Statuses
