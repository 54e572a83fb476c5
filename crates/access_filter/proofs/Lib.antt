pub mod PageLaws
pub mod PushLaws
pub mod StampLaws
pub mod AnswerLaws
pub mod Worked
