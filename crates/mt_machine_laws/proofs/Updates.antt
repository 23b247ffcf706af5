-- Whole updates, cancelled ones, and what is held after the first release.
pub mod FirstRelease
