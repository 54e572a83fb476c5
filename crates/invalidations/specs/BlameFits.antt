-- The tables of the program as the parts that are kept, numbers that can be counted on, and room.
use Rattle.std.specs.Prelude.{◌≡◌, ℕ, ◌<◌, ◌^◌, IfNone, IfSome, List, None, Option, length}
use Rattle.indexmap.specs.IndexMap.{IndexMap, get, index_of, spare}
use Rattle.invalidations.specs.declared.blame_tables.BlameTables.{BlameTables}
use Rattle.invalidations.specs.declared.blame_tables.InLine.{InLine}
use Rattle.invalidations.specs.declared.blame_tables.LineTaken.{LineTaken}
use Rattle.invalidations.specs.declared.tables.Taken.{Taken}
use Rattle.invalidations.specs.BlameKept.{Parts, in_line_eq, taken_in_line, taken_of}
use Rattle.invalidations.specs.LineInvalidations.{IsFew}

abbrev pub parts_of : BlameTables → Parts
parts_of t =
    record { lines = t.lines.entries; pairs = t.pairs.entries; harts = t.harts.entries }

-- counts below 2^40, in a table and of each line
abbrev pub AreFew : List (InLine × Taken) → Type 0
AreFew es = (x : InLine) → IsFew (taken_in_line es x)

abbrev pub AreFewTaken : List (ℕ × LineTaken) → Type 0
AreFewTaken es = (r : ℕ) → (taken_of es r).invalidations < 2 ^ 40

-- an index is that of two sides in a line; where there is none, they fit without more memory
pub record IsPlace {S : Type 0} (m : IndexMap InLine Taken S) (x : InLine) (index : Option ℕ)
    : Type 0 where
  pub found : index ≡ index_of in_line_eq m x
  pub new : IfNone index (get in_line_eq m x ≡ None)
  pub within : IfSome index (λ i. i < length m.entries)
  pub room : index ≡ None → 0 < spare m
