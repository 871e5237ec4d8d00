pub mod Lists
pub mod Curves
pub mod Orders
pub mod Layout
pub mod TickRule
pub mod Sameness
pub mod Promise
pub mod Examples
