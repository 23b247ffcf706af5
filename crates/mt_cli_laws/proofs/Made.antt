pub mod Digits
pub mod Dump
pub mod Lines
pub mod Texts
pub mod Words
