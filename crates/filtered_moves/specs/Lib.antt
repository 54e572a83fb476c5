pub mod Laws
pub mod MovedSites
