-- The laws of the definitions, by what they are about.
pub mod Apart
pub mod Found
pub mod Indexes
pub mod Symbols
