pub mod Systems
pub mod Responses
pub mod Checks
pub mod Answers
pub mod Candidates
pub mod Workloads
