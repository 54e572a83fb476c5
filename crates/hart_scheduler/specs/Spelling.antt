-- How a line of a schedule is written.
use Rattle.std.specs.Prelude.{◌≡◌, ℕ, ◌<◌, ◌^◌, ◌↔◌, List, ◌∷◌, ◌++◌, Some}
use Rattle.std.specs.Fmt.{decimal}
use Rattle.hart_scheduler.specs.Texts.{space, entry_with, entry_of}

-- the lines that say a hart and a count below 2^32 are just those that are written so
abbrev pub LinesAreWritten : Type 0
LinesAreWritten =
    (line : List ℕ) (hart count : ℕ) → hart < 2 ^ 32 → count < 2 ^ 32
    → (entry_of line ≡ Some (entry_with hart count))
    ↔ (line ≡ decimal hart ++ space ∷ decimal count)
