pub mod WorkedCaches
