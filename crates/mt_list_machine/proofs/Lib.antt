pub mod Fits
pub mod Places
pub mod Results
pub mod Translations
