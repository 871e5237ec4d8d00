pub mod Faults
pub mod Placing
pub mod Jobs
pub mod Words
pub mod Layouts
pub mod Meaning
pub mod Life
