pub mod Fixed
pub mod Faults
pub mod Parts
