pub mod Files
pub mod FilterPass
pub mod Filtering
pub mod Passages
