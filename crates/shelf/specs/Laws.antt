-- The laws of the definitions, by what they are about.
pub mod Agreeing
pub mod Files
pub mod Known
