pub mod BetweenLaws
pub mod EntryLaws
pub mod EvenLaws
pub mod ReachLaws
pub mod ReadLaws
pub mod UndoLaws
