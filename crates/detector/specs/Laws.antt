-- The laws of the definitions, by what they are about.
pub mod Entries
pub mod Standing
pub mod TrackNumberFields
