pub mod AsRead
pub mod Holding
