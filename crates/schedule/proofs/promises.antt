-- From states to histories: what a history looks like to one job, its moments, and each promise.
pub mod Follows
pub mod OneJob
pub mod Named
pub mod Following
pub mod Moments
pub mod Kept
