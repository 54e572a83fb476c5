-- The laws of the definitions, by what they are about.
pub mod Choices
pub mod Draws
