pub mod Accounts
pub mod Cursors
pub mod Laws
pub mod Lives
pub mod Passes
pub mod Rooms
pub mod Ways
pub mod Whole
