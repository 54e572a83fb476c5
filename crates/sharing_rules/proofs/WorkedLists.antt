-- Worked lists, computed from the definitions.
use Rattle.std.proofs.Common.{◌≡◌, ℕ, List, [], ◌∷◌, Some, refl}
use Rattle.base.specs.Touch.{Touch}
use Rattle.base.specs.Lines.{Grid, line_number}
use Rattle.base.specs.Levels.{Levels}
use Rattle.base.specs.declared.access.Kind.TheVariants.{Read, Write}
use Rattle.sharing_rules.specs.Places.{first_place, count_places}
use Rattle.sharing_rules.specs.Lines.{Line, is_inside, native_line, line_from}
use Rattle.sharing_rules.specs.Holders.{count_since}
use Rattle.sharing_rules.specs.Arrivals.{arrivals}
use Rattle.sharing_rules.specs.Words.{words_since}
use Rattle.sharing_rules.specs.Pairs.{best_pair_of}
use Rattle.sharing_rules.specs.Predicted.{shifted_opening, doubled_opening}
use Rattle.sharing_rules.specs.Listed.{Finding, listed}
use Rattle.sharing_rules.specs.declared.line_kind.LineKind.{LineKind}
use Rattle.sharing_rules.specs.declared.line_kind.LineKind.TheVariants.{Observed, Shifted, Doubled}

abbrev pub wr : ℕ → ℕ → Touch
wr h a = record { hart = h; addr = a; kind = Write; size = 4 }

abbrev pub rd : ℕ → ℕ → Touch
rd h a = record { hart = h; addr = a; kind = Read; size = 4 }

abbrev pub native : ℕ → Grid
native n = record { size = n; offset = 0 }

-- track from the first write on, predict at every P-th, list from one invalidation on
abbrev pub predicting : ℕ → Levels
predicting P = record { tracking = 1; prediction = Some P; report = 1 }

abbrev pub finding : LineKind → Line → ℕ → ℕ → Finding
finding kind l start count = record { kind = kind; line = l; start = start; count = count }

-- two harts write at x and at y in turn
abbrev pub turns : ℕ → ℕ → List Touch
turns x y = wr 0 x ∷ (wr 1 y ∷ (wr 0 x ∷ (wr 1 y ∷ (wr 0 x ∷ (wr 1 y ∷ [])))))

-- one write counts once, however many harts lose the line
three_readers : count_since (line_number 64 0) 65 0
    (wr 0 0x1000 ∷ (rd 1 0x1000 ∷ (rd 2 0x1000 ∷ (rd 3 0x1000 ∷ (wr 3 0x1000 ∷ []))))) ≡ 1
unfolding count_places
three_readers = refl

-- a reader of the line comes second, and a third changes nothing of the first two
two_readers : arrivals (is_inside (native_line 64 65))
    (wr 0 0x1000 ∷ (rd 1 0x1000 ∷ (rd 2 0x1000 ∷ []))) ≡ 0 ∷ (1 ∷ (2 ∷ []))
unfolding arrivals
two_readers = refl

-- the words on both sides of a line's end: both openings at 2, and both predicted lines are listed
across_openings : (shifted_opening 64 1 2 65 (turns 0x103c 0x1040) ≡ Some 2)
    × (doubled_opening 64 1 2 65 (turns 0x103c 0x1040) ≡ Some 2)
unfolding first_place best_pair_of words_since
across_openings = (refl, refl)

across_lines : listed (native 64) (predicting 2) (turns 0x103c 0x1040)
    ≡ finding Shifted (line_from 64 0x1020) 3 2 ∷
    (finding Doubled (line_from 128 0x1000) 3 2 ∷ [])
unfolding first_place count_places best_pair_of words_since
across_lines = refl

-- with every third write a candidate both open at 4, and nothing is left to count
across_thirds : (shifted_opening 64 1 3 65 (turns 0x103c 0x1040) ≡ Some 4)
    × (doubled_opening 64 1 3 65 (turns 0x103c 0x1040) ≡ Some 4)
    × (listed (native 64) (predicting 3) (turns 0x103c 0x1040) ≡ [])
unfolding first_place count_places best_pair_of words_since
across_thirds = (refl, refl, refl)

-- an opening is no start: with no later write nothing is listed
opened_late : listed (native 64) (predicting 2) (wr 0 0x103c ∷ (wr 1 0x1040 ∷ (wr 0 0x103c ∷ [])))
    ≡ []
unfolding first_place count_places best_pair_of words_since
opened_late = refl

-- one hart alone makes no pair
one_hart : listed (native 64) (predicting 2)
    (wr 0 0x103c ∷ (wr 0 0x1040 ∷ (wr 0 0x103c ∷ (wr 0 0x1040
    ∷ (wr 0 0x103c ∷ (wr 0 0x1040 ∷ [])))))) ≡ []
unfolding first_place count_places best_pair_of words_since
one_hart = refl

-- words 68 bytes apart fit a doubled line alone, and words 64 bytes apart a shifted one too
too_far : listed (native 64) (predicting 2) (wr 0 0x1000
    ∷ (wr 1 0x1040 ∷ (wr 0 0x1000 ∷ (wr 1 0x1040 ∷ (wr 0 0x1000 ∷ [])))))
    ≡ finding Doubled (line_from 128 0x1000) 3 1 ∷ []
unfolding first_place count_places best_pair_of words_since
too_far = refl

just_near : listed (native 64) (predicting 2) (wr 0 0x1004
    ∷ (wr 1 0x1040 ∷ (wr 0 0x1004 ∷ (wr 1 0x1040 ∷ (wr 0 0x1004 ∷ [])))))
    ≡ finding Shifted (line_from 64 0x1004) 3 1 ∷ (finding Doubled (line_from 128 0x1000) 3 1 ∷ [])
unfolding first_place count_places best_pair_of words_since
just_near = refl

-- neighbours that are no even pair have a shifted line alone
no_even_pair : listed (native 64) (predicting 2) (turns 0x107c 0x1080)
    ≡ finding Shifted (line_from 64 0x1060) 3 2 ∷ []
unfolding first_place count_places best_pair_of words_since
no_even_pair = refl

-- native lines of 32 bytes, and of 256, where both words are in one line
smaller_lines : listed (native 32) (predicting 2) (turns 0x101c 0x1020)
    ≡ finding Shifted (line_from 32 0x1010) 3 2 ∷
    (finding Doubled (line_from 64 0x1000) 3 2 ∷ [])
unfolding first_place count_places best_pair_of words_since
smaller_lines = refl

-- the same list under native lines of 64 bytes, where both words are in one line
same_under_64 : listed (native 64) (predicting 2) (turns 0x101c 0x1020)
    ≡ finding Observed (line_from 64 0x1000) 0 5 ∷ []
unfolding first_place count_places best_pair_of words_since
same_under_64 = refl

larger_lines : listed (native 256) (predicting 2) (turns 0x103c 0x1040)
    ≡ finding Observed (line_from 256 0x1000) 0 5 ∷ []
unfolding first_place count_places best_pair_of words_since
larger_lines = refl
