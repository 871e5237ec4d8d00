pub mod Items
pub mod Bounds
pub mod Whole
pub mod Texts
pub mod RoundTrips
pub mod PlanSheets
pub mod TaskSheets
pub mod Refusals
