-- The laws of the definitions, by what they are about.
pub mod CellFields
pub mod Few
pub mod HistoryFields
pub mod TrackValue
pub mod Placed
pub mod Quiet
pub mod WordLines
pub mod Words
