pub mod Laws
pub mod Recorded
pub mod Recording
pub mod Showing
