pub mod Stacking
pub mod Drawable
pub mod Accepted
pub mod Telling
pub mod Walking
pub mod Covering
pub mod Adding
pub mod Barring
