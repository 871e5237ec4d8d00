-- The worked examples, by evaluation.
pub mod Tested
pub mod Worked
