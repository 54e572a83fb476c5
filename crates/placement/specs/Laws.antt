-- The laws of the definitions, by what they are about.
pub mod Groups
pub mod LineCounts
pub mod LineTotals
pub mod Moved
pub mod MovedCounts
pub mod Passing
pub mod Plans
pub mod Recounts
pub mod Saved
pub mod Texts
pub mod Stated
pub mod Words
