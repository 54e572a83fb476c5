-- The laws of the definitions, by what they are about.
pub mod Seen
