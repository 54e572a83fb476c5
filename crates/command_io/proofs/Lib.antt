pub mod SaveLaws
pub mod Refusals
pub mod Usual
