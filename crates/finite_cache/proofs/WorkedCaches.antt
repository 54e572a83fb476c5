-- Worked lists, computed from the definitions.
use Rattle.std.proofs.Common.{◌≡◌, ℕ, List, [], ◌∷◌, refl}
use Rattle.base.specs.Touch.{Touch}
use Rattle.base.specs.declared.access.Kind.TheVariants.{Read, Write}
use Rattle.sharing_rules.specs.Places.{count_places, first_place}
use Rattle.finite_cache.specs.Bounded.{bounded}
use Rattle.finite_cache.specs.Rows.{rows_of, totals_of}
use Rattle.base.specs.Shapes.{CacheShape}
use Rattle.finite_cache.specs.declared.rows.CacheRow.{CacheRow}
use Rattle.finite_cache.specs.declared.rows.Totals.{Totals}

abbrev wr : ℕ → ℕ → Touch
wr h a = record { hart = h; addr = a; kind = Write; size = 4 }

abbrev rd : ℕ → ℕ → Touch
rd h a = record { hart = h; addr = a; kind = Read; size = 4 }

abbrev shape : ℕ → ℕ → ℕ → CacheShape
shape n s w = record { size = n; sets = s; ways = w }

-- of each row its start, its counts in bounded and in unbounded caches, and its evictions
abbrev stated : List CacheRow → List (ℕ × ℕ × ℕ × ℕ)
stated [] = []
stated (x ∷ xs) = (x.start, x.bounded, x.unbounded, x.evicted) ∷ stated xs

abbrev sums : Totals → ℕ × ℕ × ℕ
sums x = (x.bounded, x.unbounded, x.evicted)

-- two harts write a line in turn, and one of them another line in between
abbrev in_between : List Touch
in_between = wr 0 0x1000 ∷ (wr 1 0x1000 ∷ (wr 1 0x2000 ∷ (wr 0 0x1000 ∷ [])))

-- with room for one line the second hart lost the line before the first wrote it again
one_way : (stated (rows_of (shape 64 1 1) in_between) ≡ (0, 1, 2, 1) ∷ (2, 0, 0, 0) ∷ [])
    × (sums (totals_of (shape 64 1 1) in_between) ≡ (1, 2, 1))
unfolding count_places first_place
one_way = (refl, refl)

-- with room for two, or in another set, nothing is lost
two_ways : (stated (rows_of (shape 64 1 2) in_between) ≡ (0, 2, 2, 0) ∷ (2, 0, 0, 0) ∷ [])
    × (sums (totals_of (shape 64 1 2) in_between) ≡ (2, 2, 0))
unfolding count_places first_place
two_ways = (refl, refl)

-- lines 0x1000 and 0x2000 of 64 bytes are in one set of 64, and in two of 256
one_set : (stated (rows_of (shape 64 64 1) in_between) ≡ (0, 1, 2, 1) ∷ (2, 0, 0, 0) ∷ [])
    × (stated (rows_of (shape 64 256 1) in_between) ≡ (0, 2, 2, 0) ∷ (2, 0, 0, 0) ∷ [])
unfolding count_places first_place
one_set = (refl, refl)

-- the least recently used line leaves, and a line that is used again isn't it
lists : (bounded (shape 64 1 2) (rd 0 0x40 ∷ (rd 0 0x80 ∷ (rd 0 0x40 ∷ (rd 0 0xc0 ∷ [])))) 0 0
    ≡ 4 ∷ 2 ∷ [])
lists = refl

-- an eviction before the first write counts, and a line that is taken by a write isn't evicted
evicted_before : stated (rows_of (shape 64 1 1) (rd 0 0x40 ∷ (rd 0 0x80 ∷ (wr 1 0x40 ∷ []))))
    ≡ (2, 0, 0, 1) ∷ []
unfolding count_places first_place
evicted_before = refl

taken : stated (rows_of (shape 64 1 2) (rd 0 0x40 ∷ (wr 1 0x40 ∷ (rd 0 0x80 ∷ (rd 0 0xc0 ∷ [])))))
    ≡ (1, 0, 0, 0) ∷ []
unfolding count_places first_place
taken = refl
