pub mod Stamps
pub mod Pages
pub mod Rules
pub mod Standing
