-- What follows from the definitions. A law stands here with its proof, so that other crates can
-- cite it.
pub mod Moved
