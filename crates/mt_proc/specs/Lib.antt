pub mod After
pub mod Applied
pub mod Listing
pub mod Proc
pub mod Requests
pub mod Running
pub mod Serving
