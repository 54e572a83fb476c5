pub mod WorkedMoves
