pub mod CallLists
pub mod Promising
