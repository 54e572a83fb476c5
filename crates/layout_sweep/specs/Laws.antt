-- What follows from the definitions. A law stands here with its proof, so that other crates can
-- cite it.
pub mod Counts
pub mod Least
pub mod Lines
pub mod Listed
pub mod Standing
pub mod Totals
pub mod WindowFields
pub mod Windows
