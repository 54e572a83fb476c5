pub mod Allowed
pub mod Answers
pub mod Changed
pub mod Keys
pub mod Tables
