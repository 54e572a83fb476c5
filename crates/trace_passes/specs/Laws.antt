-- The laws of the definitions, by what they are about.
pub mod Accounts
pub mod Lives
pub mod Noting
pub mod Passes
pub mod Spelled
