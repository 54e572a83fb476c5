-- Worked lists, computed from the definitions.
use Rattle.std.proofs.Common.{◌≡◌, ℕ, List, [], ◌∷◌, refl}
use Rattle.base.specs.declared.access.Kind.{Kind}
use Rattle.base.specs.declared.access.Kind.TheVariants.{Read, Write}
use Rattle.sharing_rules.specs.Lines.{Line}
use Rattle.sharing_rules.specs.Places.{count_places}
use Rattle.sharing_rules.specs.declared.word.Owner.TheVariants.{Many, One}
use Rattle.sharing_rules.specs.declared.word.Word.{Word}
use Rattle.invalidations.specs.declared.sited.Sides.{Sides}
use Rattle.invalidations.specs.declared.sited.Sited.{Sited}
use Rattle.invalidations.specs.declared.tables.Taken.{Taken}
use Rattle.invalidations.specs.Latest.{latest, latest_place}
use Rattle.invalidations.specs.Invalidations.{hart_pairs, pairs, sites, invalidation_count}
use Rattle.invalidations.specs.Invalidations.{invalidations}

abbrev at : ℕ → ℕ → Kind → ℕ → Sited
at h a kind pc =
    record { access = record { hart = h; addr = a; kind = kind; size = 1 }; pc = pc }

-- the line of 64 bytes at 64
abbrev line : Line
line = record { size = 64; offset = 0; number = 2 }

-- Two harts add to a byte of their own each: a load at 8 and a store at 12, after a store of hart 0
-- at 4. The third access takes the line from the store, the sixth from the load.
abbrev two_adders : List Sited
two_adders =
    at 0 72 Write 4 ∷ at 1 65 Read 8 ∷ at 1 65 Write 12 ∷ at 0 64 Read 8 ∷ at 2 0 Write 16
    ∷ at 1 65 Read 8 ∷ at 0 64 Write 12 ∷ []

abbrev side : ℕ → ℕ → Sides
side v t = record { victim = v; taker = t }

abbrev taken : ℕ → ℕ → Taken
taken n m = record { taken = n; same = m }

counted : invalidation_count line 0 two_adders ≡ 2
unfolding count_places
counted = refl

by_pcs : pairs line 0 two_adders ≡ (side 4 12, taken 1 0) ∷ (side 8 12, taken 1 1) ∷ []
unfolding count_places latest latest_place invalidations
by_pcs = refl

by_harts : hart_pairs line 0 two_adders ≡ (side 0 1, taken 1 0) ∷ (side 1 0, taken 1 1) ∷ []
unfolding count_places latest latest_place invalidations
by_harts = refl

abbrev word : ℕ → ℕ → Word
word r w = record { reads = r; writes = w; owner = Many }

visited : sites line 0 two_adders
    ≡ (4, record { reads = 0; writes = 1; owner = One 0 }) ∷ (8, word 3 0) ∷ (12, word 0 2) ∷ []
visited = refl

-- an invalidation at the start isn't one above it, and a site below the start isn't one from there
-- on
from_an_invalidation : invalidation_count line 2 two_adders ≡ 1
unfolding count_places
from_an_invalidation = refl

sites_from_an_invalidation : sites line 2 two_adders
    ≡ (12, word 0 2) ∷ (8, word 2 0) ∷ []
sites_from_an_invalidation = refl

-- the victim of an invalidation is no access of the taker's own hart, and needn't be a write
own_reads : pairs line 0 (at 1 65 Read 8 ∷ at 0 64 Read 20 ∷ at 0 64 Write 24 ∷ [])
    ≡ (side 8 24, taken 1 1) ∷ []
unfolding count_places latest latest_place invalidations
own_reads = refl

-- a write that takes the line from two harts is one invalidation
once : pairs line 0 (at 1 65 Read 8 ∷ at 2 68 Read 8 ∷ at 0 64 Write 12 ∷ [])
    ≡ (side 8 12, taken 1 0) ∷ []
unfolding count_places latest latest_place invalidations
once = refl

-- a line that nobody touches has none
untouched : (sites (record { size = 64; offset = 0; number = 5 }) 0 two_adders ≡ [])
    × (pairs (record { size = 64; offset = 0; number = 5 }) 0 two_adders ≡ [])
unfolding count_places latest latest_place invalidations
untouched = (refl, refl)
