pub mod WorkedFiltered
