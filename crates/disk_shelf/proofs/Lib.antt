pub mod DiskLaws
pub mod KnownFileLaws
pub mod LogSteps
pub mod ReadLaws
pub mod WrittenLaws
