pub mod Thetas
pub mod Loads
pub mod Choices
pub mod Placing
pub mod Seen
pub mod Windows
pub mod Plans
pub mod Laws
