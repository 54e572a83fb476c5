-- Worked lists: the places of the accesses that are kept. Each is closed by computing.
use Rattle.std.proofs.Common.{◌≡◌, ℕ, List, [], ◌∷◌, filter, length, refl}
use Rattle.base.specs.Touch.{Touch}
use Rattle.base.specs.declared.access.Kind.TheVariants.{Read, Write}
use Rattle.sharing_rules.specs.AccessLists.{AccessList}
use Rattle.sharing_rules.specs.Filtered.{filtered, is_kept_at}
use Rattle.sharing_rules.specs.Places.{below}

abbrev pub read : ℕ → ℕ → Touch
read hart addr = record { hart = hart; addr = addr; kind = Read; size = 4 }

abbrev pub write : ℕ → ℕ → Touch
write hart addr = record { hart = hart; addr = addr; kind = Write; size = 4 }

abbrev pub half : Touch → ℕ → Touch
half a addr = record a { addr = addr; size = 2 }

abbrev pub kept_places : ℕ → AccessList → List ℕ
kept_places k t = filter (is_kept_at k t) (below (length t))

-- a write covers what comes behind it by its hart, in its word alone
one_hart : kept_places 6 (write 0 0x1000 ∷ write 0 0x1000 ∷ read 0 0x1000 ∷ write 0 0x1004
    ∷ read 0 0x1000 ∷ []) ≡ 0 ∷ 3 ∷ []
one_hart = refl

-- a read covers no write
read_first : kept_places 6 (read 0 0x1000 ∷ write 0 0x1000 ∷ write 0 0x1000 ∷ read 0 0x1000 ∷ [])
    ≡ 0 ∷ 1 ∷ []
read_first = refl

-- another hart in the same region
same_region : kept_places 6 (write 0 0x1000 ∷ read 1 0x1020 ∷ write 0 0x1000 ∷ read 0 0x1000 ∷ [])
    ≡ 0 ∷ 1 ∷ 2 ∷ []
same_region = refl

abbrev far_apart : AccessList
far_apart = write 0 0x1000 ∷ read 1 0x10c0 ∷ write 0 0x1000 ∷ read 1 0x10c0 ∷ []

-- regions of 64 bytes with two between them aren't near, and those of 128 bytes are neighbours
far_regions : kept_places 6 far_apart ≡ 0 ∷ 1 ∷ []
far_regions = refl

large_regions : kept_places 7 far_apart ≡ 0 ∷ 1 ∷ 2 ∷ 3 ∷ []
large_regions = refl

neighbours : kept_places 6 (write 0 0x1000 ∷ read 1 0x1040 ∷ write 0 0x1000 ∷ read 1 0x1040 ∷ [])
    ≡ 0 ∷ 1 ∷ 2 ∷ 3 ∷ []
neighbours = refl

-- a region below counts as one above
neighbours_below : kept_places 6 (write 0 0x1040 ∷ read 1 0x103c ∷ write 0 0x1040 ∷ [])
    ≡ 0 ∷ 1 ∷ 2 ∷ []
neighbours_below = refl

two_harts : kept_places 6 (write 0 0x1000 ∷ read 1 0x1000 ∷ read 1 0x1000 ∷ write 1 0x1000
    ∷ write 0 0x1000 ∷ []) ≡ 0 ∷ 1 ∷ 3 ∷ 4 ∷ []
two_harts = refl

-- none is redundant, though none is a miss but the first two
two_readers : kept_places 6 (read 0 0x1000 ∷ read 1 0x1000 ∷ read 0 0x1000 ∷ read 1 0x1000 ∷ [])
    ≡ 0 ∷ 1 ∷ 2 ∷ 3 ∷ []
two_readers = refl

-- the word counts, and not the address
halves : kept_places 6 (half (write 0 0) 0x1000 ∷ half (write 0 0) 0x1002 ∷ half (read 0 0) 0x1000
    ∷ write 0 0x1004 ∷ read 0 0x1000 ∷ []) ≡ 0 ∷ 3 ∷ []
halves = refl

-- the filtered list has the accesses at these places
filtered_list : filtered 6 far_apart ≡ write 0 0x1000 ∷ read 1 0x10c0 ∷ []
unfolding filtered
filtered_list = refl
