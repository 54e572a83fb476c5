-- Worked lists, computed from the definitions.
use Rattle.std.proofs.Common.{◌≡◌, ℕ, List, [], ◌∷◌, ◌++◌, refl, arith}
use Rattle.base.specs.Touch.{Touch}
use Rattle.base.specs.Lines.{line_number}
use Rattle.base.specs.declared.access.Kind.TheVariants.{Read, Write}
use Rattle.sharing_rules.specs.Places.{count_places}
use Rattle.misses.specs.Misses.{cold, copies, is_miss, useful, useless}
use Rattle.misses.specs.WordsApart.{came_along, misses_apart}

abbrev wr : ℕ → ℕ → Touch
wr h a = record { hart = h; addr = a; kind = Write; size = 4 }

abbrev rd : ℕ → ℕ → Touch
rd h a = record { hart = h; addr = a; kind = Read; size = 4 }

-- the line of address 0x1000 under lines of n bytes: its cold, its useful and its useless misses
abbrev costs : ℕ → ℕ → List Touch → ℕ × ℕ × ℕ
costs n r t =
    (cold (line_number n 0) r t, useful (line_number n 0) r t, useless (line_number n 0) r t)

-- two harts write different words of a line in turn
abbrev apart : List Touch
apart = wr 0 0x1000 ∷ (wr 1 0x1004 ∷ (wr 0 0x1000 ∷ (wr 1 0x1004 ∷ [])))

two_writers : costs 64 65 apart ≡ (2, 0, 2)
unfolding count_places copies
two_writers = refl

-- with a line for each word each hart has its own
two_lines : (costs 4 1025 apart ≡ (1, 0, 0)) × (costs 4 1026 apart ≡ (1, 0, 0))
unfolding count_places copies
two_lines = (refl, refl)

-- a reader needs what was written, and the writer still has the line at its second write
handed_on : costs 64 65 (wr 0 0x1000 ∷ (rd 1 0x1000 ∷ (wr 0 0x1000 ∷ (rd 1 0x1000 ∷ []))))
    ≡ (2, 1, 0)
unfolding count_places copies
handed_on = refl

abbrev one_round : List Touch
one_round = wr 0 0x1000 ∷ (rd 1 0x1000 ∷ (rd 2 0x1004 ∷ (rd 3 0x1008 ∷ [])))

-- a flag and two words that nobody writes on one line: of three readers one needs the load
three_readers : costs 64 65 (one_round ++ one_round) ≡ (4, 1, 2)
unfolding count_places copies
three_readers = refl

-- a miss for nothing, whose load a later access needs
needed_later : costs 64 65
    (wr 0 0x1000 ∷ (rd 1 0x1004 ∷ (wr 0 0x1000 ∷ (rd 1 0x1004 ∷ (rd 1 0x1000 ∷ []))))) ≡ (2, 1, 0)
unfolding count_places copies
needed_later = refl

-- the misses of the line of address 0x1000, those of its words' own lines, and the words that came
-- along
abbrev beside : List Touch → ℕ × ℕ × ℕ
beside t = (
  count_places (is_miss (line_number 64 0) 65) t,
  misses_apart (line_number 64 0) 65 t,
  came_along (line_number 64 0) 65 t,
)

-- a line for each word saves the two writers what they miss for nothing
all_saved : beside apart ≡ (4, 2, 0)
unfolding count_places copies
all_saved = refl

-- of two words that are handed on together the second comes along, to the writer and to the reader
two_words : beside (wr 0 0x1000 ∷ (wr 0 0x1004 ∷ (rd 1 0x1000 ∷ (rd 1 0x1004 ∷ []))))
    ≡ (2, 4, 2)
unfolding count_places copies
two_words = refl

-- the useless ones are neither fewer nor more, and none of them is useful
not_otherwise : (useless (line_number 64 0) 65 apart ≡ 1 → ⊥)
    × (useless (line_number 64 0) 65 apart ≡ 4 → ⊥) × (useful (line_number 64 0) 65 apart ≡ 1 → ⊥)
unfolding count_places copies
not_otherwise = (
  λ e. absurd (omega (arith, e)),
  λ e. absurd (omega (arith, e)),
  λ e. absurd (omega (arith, e)),
)
