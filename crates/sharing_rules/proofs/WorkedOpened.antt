-- What is kept of worked lists, computed from the definitions.
use Rattle.std.proofs.Common.{◌≡◌, ℕ, List, [], ◌∷◌, Some, None, refl}
use Rattle.base.specs.Touch.{Touch}
use Rattle.base.specs.Levels.{Levels}
use Rattle.base.specs.declared.access.Kind.TheVariants.{Read, Write}
use Rattle.sharing_rules.specs.Places.{first_place}
use Rattle.sharing_rules.specs.Lines.{native_grid, native_line, line_from}
use Rattle.sharing_rules.specs.Words.{words_since}
use Rattle.sharing_rules.specs.Pairs.{best_pair_of}
use Rattle.sharing_rules.specs.Opened.{Opened, observed_from, shifted_after, doubled_after, opened}
use Rattle.sharing_rules.specs.Opened.{opened_now}

abbrev wr : ℕ → ℕ → Touch
wr h a = record { hart = h; addr = a; kind = Write; size = 4 }

abbrev rd : ℕ → ℕ → Touch
rd h a = record { hart = h; addr = a; kind = Read; size = 4 }

-- track from the T-th write on, predict at every P-th
abbrev levels : ℕ → ℕ → Levels
levels T P = record { tracking = T; prediction = Some P; report = 1 }

abbrev observing : ℕ → Levels
observing T = record { tracking = T; prediction = None; report = 1 }

-- two harts write the words on both sides of a line's end in turn
abbrev once : List Touch
once = wr 0 0x103c ∷ (wr 1 0x1040 ∷ [])

abbrev twice : List Touch
twice = wr 0 0x103c ∷ (wr 1 0x1040 ∷ (wr 0 0x103c ∷ []))

-- what is kept: the lines of both words, and the lines across
abbrev lower : Opened
lower = observed_from (native_line 64 65) 0

abbrev upper : Opened
upper = observed_from (native_line 64 66) 1

abbrev shifted : ℕ → Opened
shifted o = shifted_after o (line_from 64 0x1020)

abbrev doubled : ℕ → Opened
doubled o = doubled_after (line_from 128 0x1000) o

-- both lines are observed from their first writes on
both_observed : opened (native_grid 64) (levels 1 2) once ≡ lower ∷ (upper ∷ [])
unfolding first_place best_pair_of words_since
both_observed = refl

-- the second write of one of them opens the shifted and the doubled line, which may start after it
both_open : opened_now (native_grid 64) (levels 1 2) once (wr 0 0x103c)
    ≡ shifted 2 ∷ (doubled 2 ∷ [])
unfolding first_place best_pair_of words_since
both_open = refl

all_kept : opened (native_grid 64) (levels 1 2) twice
    ≡ lower ∷ (upper ∷ (shifted 2 ∷ (doubled 2 ∷ [])))
unfolding first_place best_pair_of words_since
all_kept = refl

-- what opened opens no more
opens_once : opened_now (native_grid 64) (levels 1 2) twice (wr 1 0x1040) ≡ []
unfolding first_place best_pair_of words_since
opens_once = refl

-- a read opens nothing
reads_open_nothing : opened_now (native_grid 64) (levels 1 2) once (rd 0 0x103c) ≡ []
unfolding first_place best_pair_of words_since
reads_open_nothing = refl

-- a line is observed at its T-th write, and not before
second_write : opened_now (native_grid 64) (observing 2) (wr 0 0x1000 ∷ []) (wr 1 0x103c)
    ≡ observed_from (native_line 64 65) 1 ∷ []
unfolding first_place
second_write = refl

first_write : opened_now (native_grid 64) (observing 2) [] (wr 1 0x103c) ≡ []
unfolding first_place
first_write = refl

-- at one write a line is observed and both of its predicted lines open
all_at_once : opened_now (native_grid 64) (levels 1 1) (wr 0 0x103c ∷ []) (wr 1 0x1040)
    ≡ upper ∷ (shifted 1 ∷ (doubled 1 ∷ []))
unfolding first_place best_pair_of words_since
all_at_once = refl

-- neighbours that are no even pair open a shifted line alone
abbrev no_pair : List Touch
no_pair = wr 0 0x107c ∷ (wr 1 0x1080 ∷ [])

no_even_pair : opened_now (native_grid 64) (levels 1 2) no_pair (wr 0 0x107c)
    ≡ shifted_after 2 (line_from 64 0x1060) ∷ []
unfolding first_place best_pair_of words_since
no_even_pair = refl
