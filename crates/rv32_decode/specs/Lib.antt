pub mod Codes
pub mod Fields
pub mod Spelling
pub mod Table
pub mod Validity
