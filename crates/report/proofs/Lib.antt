pub mod FoundLaws
pub mod ShownLaws
pub mod StandingLaws
pub mod TextLaws
