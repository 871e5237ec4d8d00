pub mod Searches
pub mod Sets
pub mod Orderings
