pub mod AddressTrees
pub mod Blocks
pub mod Extents
pub mod Indexes
pub mod Laws
pub mod Objects
pub mod Rows
pub mod Symbols
