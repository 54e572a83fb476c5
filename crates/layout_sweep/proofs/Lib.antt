pub mod LineLaws
pub mod PageLaws
pub mod WordLaws
pub mod RowLaws
