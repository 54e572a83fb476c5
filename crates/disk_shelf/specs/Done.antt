-- What a shelf of the system's files has done: the calls that the system answered Ok, and those that
-- failed.
use Rattle.std.specs.Prelude.{ℕ, List}
use Rattle.shelf.specs.declared.shelf.ShelfError.{ShelfError}

pub data Done : Type 0 where
  -- the file of this name was read from a place on, into so much room, and these bytes were given
  WasRead : (name : List ℕ) (at room : ℕ) (bytes : List ℕ) → Done
  -- the file of this name was made empty
  WasBegun : (name : List ℕ) → Done
  -- this piece was added to the file of this name
  WasAppended : (name piece : List ℕ) → Done
  -- this piece was printed
  WasPrinted : (piece : List ℕ) → Done
  -- reading the file of this name failed so
  ReadingFailed : (name : List ℕ) (error : ShelfError) → Done
  -- writing the file of this name failed so
  WritingFailed : (name : List ℕ) (error : ShelfError) → Done
  -- printing failed so
  PrintingFailed : (error : ShelfError) → Done
