pub mod Numbers
pub mod Searches
pub mod Faults
pub mod Sets
pub mod Orders
pub mod Arrivals
pub mod Ranks
