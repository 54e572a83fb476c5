pub mod ComerSteps
pub mod FoundLaws
pub mod RowOrder
pub mod SeatLaws
pub mod SeenLaws
pub mod WorkedMisses
