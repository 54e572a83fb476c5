pub mod Laws
pub mod SameCounts
pub mod SameHarts
pub mod Witnesses
