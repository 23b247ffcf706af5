pub mod Windows
mod Addresses
mod Front
