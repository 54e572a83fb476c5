pub mod Added
pub mod Laws
pub mod Lines
pub mod ListedTracks
pub mod OfLists
pub mod Reports
pub mod Shown
pub mod Standing
