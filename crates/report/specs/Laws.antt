pub mod OfLists
pub mod Shown
pub mod Stable
