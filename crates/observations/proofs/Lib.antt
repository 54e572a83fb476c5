pub mod NextLaws
pub mod NotedLaws
pub mod ObjectLaws
pub mod OriginLaws
