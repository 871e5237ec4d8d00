-- In a plan in time no part is late: room and open jobs, the work that goes before a part, and the invariant.
pub mod Room
pub mod Work
pub mod Ahead
pub mod Invariant
