pub mod Buckets
pub mod Regulators
