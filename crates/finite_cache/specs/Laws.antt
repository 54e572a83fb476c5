-- What follows from the definitions. A law stands here with its proof, so that other crates can
-- cite it.
pub mod Bounds
pub mod Cells
pub mod Fits
pub mod Seen
pub mod Shapes
pub mod Standing
pub mod Stands
pub mod Steps
pub mod Tables
pub mod Texts
pub mod Stated
pub mod Ways
