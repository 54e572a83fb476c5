-- Worked lists, computed from the definitions: which places a filtered list keeps, with ranges of
-- 64 bytes where nothing else is said.
use Rattle.std.proofs.Common.{◌≡◌, ℕ, List, [], ◌∷◌, length, refl}
use Rattle.std.specs.Prelude.{filter}
use Rattle.base.specs.Touch.{Touch}
use Rattle.base.specs.declared.access.Kind.TheVariants.{Read, Write}
use Rattle.base.specs.Lines.{line_number}
use Rattle.sharing_rules.specs.Places.{below, count_places}
use Rattle.misses.specs.Misses.{is_miss}
use Rattle.sharing_rules.specs.Filtered.{filtered, is_kept_at}

abbrev wr : ℕ → ℕ → Touch
wr h a = record { hart = h; addr = a; kind = Write; size = 4 }

abbrev rd : ℕ → ℕ → Touch
rd h a = record { hart = h; addr = a; kind = Read; size = 4 }

-- the same of half of a word
abbrev half : Touch → Touch
half a = record { hart = a.hart; addr = a.addr; kind = a.kind; size = 2 }

-- the places that a filtered list keeps
abbrev kept : ℕ → List Touch → List ℕ
kept k t = filter (is_kept_at k t) (below (length t))

-- a hart alone keeps its first write of each word
abbrev alone : List Touch
alone = wr 0 0x1000 ∷ wr 0 0x1000 ∷ rd 0 0x1000 ∷ wr 0 0x1004 ∷ rd 0 0x1000 ∷ []

one_hart : kept 6 alone ≡ 0 ∷ 3 ∷ []
one_hart = refl

one_hart_filtered : filtered 6 alone ≡ wr 0 0x1000 ∷ wr 0 0x1004 ∷ []
unfolding filtered
one_hart_filtered = refl

-- a write after a read is kept
write_after_read :
    kept 6 (rd 0 0x1000 ∷ wr 0 0x1000 ∷ wr 0 0x1000 ∷ rd 0 0x1000 ∷ []) ≡ 0 ∷ 1 ∷ []
write_after_read = refl

-- another hart that reads another word of the range makes the next write kept, and with that the
-- read behind it is redundant
reader_near :
    kept 6 (wr 0 0x1000 ∷ rd 1 0x1020 ∷ wr 0 0x1000 ∷ rd 0 0x1000 ∷ []) ≡ 0 ∷ 1 ∷ 2 ∷ []
reader_near = refl

-- ranges that aren't neighbours, and neighbours
abbrev in_turn : ℕ → List Touch
in_turn x = wr 0 0x1000 ∷ rd 1 x ∷ wr 0 0x1000 ∷ rd 1 x ∷ []

far_ranges : kept 6 (in_turn 0x10c0) ≡ 0 ∷ 1 ∷ []
far_ranges = refl

neighbours : kept 6 (in_turn 0x1040) ≡ 0 ∷ 1 ∷ 2 ∷ 3 ∷ []
neighbours = refl

-- with ranges of 128 bytes the far ones are neighbours too
wider_ranges : kept 7 (in_turn 0x10c0) ≡ 0 ∷ 1 ∷ 2 ∷ 3 ∷ []
wider_ranges = refl

-- a word that is handed on: the second read in a row is redundant, its write isn't
handed_on : kept 6 (wr 0 0x1000 ∷ rd 1 0x1000 ∷ rd 1 0x1000 ∷ wr 1 0x1000 ∷ wr 0 0x1000 ∷ [])
    ≡ 0 ∷ 1 ∷ 3 ∷ 4 ∷ []
handed_on = refl

-- two readers in turn keep all, though only their first reads miss
two_readers : kept 6 (rd 0 0x1000 ∷ rd 1 0x1000 ∷ rd 0 0x1000 ∷ rd 1 0x1000 ∷ [])
    ≡ 0 ∷ 1 ∷ 2 ∷ 3 ∷ []
two_readers = refl

-- the word counts, and not the address
abbrev in_halves : List Touch
in_halves = half (wr 0 0x1000) ∷ half (wr 0 0x1002) ∷ half (rd 0 0x1000)
    ∷ wr 0 0x1004 ∷ rd 0 0x1000 ∷ []

halves : kept 6 in_halves ≡ 0 ∷ 3 ∷ []
halves = refl

-- the misses of the line of address 0x1000 under lines of n bytes
abbrev misses_of : ℕ → List Touch → ℕ
misses_of n t = count_places (is_miss (line_number n 0) (line_number n 0 0x1000)) t

-- lines of one range keep their misses, and wider ones may lose some
lines_of_a_range : (misses_of 64 (in_turn 0x10c0) ≡ 1)
    × (misses_of 64 (filtered 6 (in_turn 0x10c0)) ≡ 1)
unfolding count_places filtered
lines_of_a_range = (refl, refl)

wider_lines : (misses_of 256 (in_turn 0x10c0) ≡ 3)
    × (misses_of 256 (filtered 6 (in_turn 0x10c0)) ≡ 2)
unfolding count_places filtered
wider_lines = (refl, refl)
