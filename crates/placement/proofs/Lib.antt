pub mod GroupSteps
mod WorkedPlaces
pub mod TextSteps
