pub mod Blame
pub mod ChangedLemmas
pub mod Contents
pub mod Numbers
pub mod Unknown
