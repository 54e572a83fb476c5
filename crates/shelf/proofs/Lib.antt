pub mod FileLemmas
pub mod Front
pub mod Fronts
pub mod Lasting
pub mod LogSteps
pub mod OutputLists
pub mod WorkedFiles
