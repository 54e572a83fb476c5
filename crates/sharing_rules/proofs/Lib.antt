pub mod WorkedLists
pub mod WorkedOpened
pub mod WorkedRecounts
