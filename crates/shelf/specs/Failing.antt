-- The calls of a shelf in memory that are to fail, and what they keep.
use Rattle.std.specs.Prelude.{ℕ, ◌==◌, List, [], Option, Result, Ok, Err, find, take, unwrap_or}
use Rattle.std.specs.Option.{option_map}
use Rattle.shelf.specs.declared.shelf.ShelfError.{ShelfError}
use Rattle.shelf.specs.declared.shelf.ShelfError.TheVariants.{Failed, NoMemory}
use Rattle.shelf.specs.declared.memory.Failing.{Failing}

-- how many bytes the call of a number keeps, where it is to fail: the first entry for it counts
abbrev pub failing_at : List Failing → ℕ → Option ℕ
failing_at entries call = option_map (λ entry. entry.keep)
    (find (λ entry. entry.call == call) entries)

-- what a call keeps of its piece: all at Ok, as many bytes as are listed where it fails, none for
-- want of memory
abbrev pub kept_of : {T : Type 0} → Result T ShelfError → Option ℕ → List ℕ → List ℕ
kept_of (Ok _) failure piece = piece
kept_of (Err Failed) failure piece = take (unwrap_or failure 0) piece
kept_of (Err NoMemory) failure piece = []
