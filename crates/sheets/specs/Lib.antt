pub mod Grammar
pub mod Answers
pub mod Texts
pub mod Laws
pub mod Refusals
