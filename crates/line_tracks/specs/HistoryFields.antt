-- How the field of a history stands for its entries: the number of the first, and 256 times one more
-- than that of the second, if there is one.
use Rattle.std.specs.Prelude.{◌≢◌, ℕ, ◌+◌, ◌-◌, ◌*◌, ◌/◌, ◌%◌, ◌<◌, ◌==◌, if◌then◌else◌, List}
use Rattle.std.specs.Prelude.{[], ◌∷◌}
use Rattle.line_tracks.specs.declared.history.History.TheInside.{Inside}

abbrev pub entries_of : ℕ → List ℕ
entries_of n = if n / 256 == 0 then n ∷ [] else n % 256 ∷ (n / 256 - 1) ∷ []

abbrev pub entries : Inside → List ℕ
entries h = entries_of h.both

-- the two are numbers of harts, and differ
abbrev pub AreDistinct : Inside → Type 0
AreDistinct h = (h.both / 256 < 257) × (h.both / 256 ≢ h.both % 256 + 1)

abbrev pub fields_of : List ℕ → Inside
fields_of [] = record { both = 0 }
fields_of (x ∷ []) = record { both = x }
fields_of (x ∷ (y ∷ ys)) = record { both = x + 256 * (y + 1) }
