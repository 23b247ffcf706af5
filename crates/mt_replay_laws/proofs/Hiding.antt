-- Caches are never seen in scripts.
pub mod Coming
pub mod Commands
pub mod Lines
pub mod Once
