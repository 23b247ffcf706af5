pub mod Contexts
pub mod RunWishes
pub mod Wishes
