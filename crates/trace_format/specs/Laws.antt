-- The laws of the definitions, by what they are about.
pub mod Again
pub mod Before
pub mod Bytes
pub mod Counts
pub mod Ends
pub mod Extents
pub mod Headers
pub mod Magic
pub mod Pieces
pub mod Prefixes
pub mod Reading
pub mod Records
pub mod Spelling
pub mod Touches
pub mod Traces
pub mod Writing
