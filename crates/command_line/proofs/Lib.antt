pub mod AppLemmas
pub mod AskedLemmas
pub mod BoundLaws
pub mod NumberLemmas
pub mod SetLemmas
pub mod ShapeLemmas
