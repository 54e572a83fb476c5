-- What follows from the definitions. A law stands here with its proof, so that other crates can
-- cite it.
pub mod Copies
pub mod Costs
pub mod Entered
pub mod Entries
pub mod Fits
pub mod MissCounts
pub mod KeptLines
pub mod KeptOf
pub mod Loads
pub mod Served
pub mod Sums
pub mod Stated
pub mod Totals
pub mod WordLines
pub mod WordsApart
