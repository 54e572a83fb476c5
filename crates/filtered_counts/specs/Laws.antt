-- What follows from the definitions. A law stands here with its proof, so that other crates can
-- cite it.
pub mod Alike
pub mod Counts
pub mod Harts
pub mod Near
pub mod Redundant
pub mod Same
pub mod Settled
pub mod Walk
pub mod Witnesses
