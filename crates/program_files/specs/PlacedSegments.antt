-- Segments that are placed one after the other.
use Rattle.std.specs.Prelude.{◌≡◌, ℕ, ◌+◌, ◌≤◌, true, List, [], ◌∷◌, length, find, None}
use Rattle.std.specs.Prelude.{if◌then◌else◌}
use Rattle.rv32_hart.specs.declared.page.Page.{Page}
use Rattle.rv32_hart.specs.Changes.{touches, granted}
use Rattle.program_files.specs.Programs.{Loaded}
use Rattle.program_files.specs.Images.{may_run, may_write, holds}

-- none of the others has an address of the first
abbrev pub IsApart : Loaded → List Loaded → Type 0
IsApart s others = (a : ℕ) → holds a s ≡ true → find (holds a) others ≡ None

-- each has no more content than bytes, and no two share an address
abbrev pub AreApart : List Loaded → Type 0
AreApart [] = Unit {0}
AreApart (s ∷ others) = (length s.content ≤ s.size) × IsApart s others × AreApart others

-- each lies from an address on and below another
abbrev pub AreWithin : ℕ → ℕ → List Loaded → Type 0
AreWithin low high [] = Unit {0}
AreWithin low high (s ∷ others) = (low ≤ s.addr) × (s.addr + s.size ≤ high)
    × AreWithin low high others

-- a page's rights once segments are mapped
abbrev pub with_segments : List Loaded → ℕ → Page → Page
with_segments [] a page = page
with_segments (s ∷ others) a page = with_segments others a
    (if touches s.addr s.size a then granted (may_write s) (may_run s) page else page)
