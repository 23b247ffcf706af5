pub mod Facts
pub mod Translations
pub mod Stepping
