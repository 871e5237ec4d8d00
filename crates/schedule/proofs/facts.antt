-- Facts that every proof uses: lists and sums, curves, ranks, who runs, what a call leaves, segments, and where a job can stand.
pub mod Lists
pub mod Curves
pub mod Ranks
pub mod Running
pub mod Calls
pub mod Segments
pub mod Jobs
