pub mod Calls
pub mod Disk
pub mod Done
pub mod Laws
