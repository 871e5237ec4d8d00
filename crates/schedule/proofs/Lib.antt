pub mod facts
pub mod Responses
pub mod Histories
pub mod lateness
pub mod promises
pub mod overload
pub mod Theorems
pub mod examples
