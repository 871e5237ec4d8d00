-- A plan with a part that has no response time can be made late: the critical calls and the account of work in them.
pub mod Left
pub mod Traces
pub mod Arrivals
pub mod Attempts
pub mod CriticalInstant
pub mod Account
pub mod CanBeLate
