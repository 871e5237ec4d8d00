pub mod Steps
pub mod Scale
pub mod Numerals
