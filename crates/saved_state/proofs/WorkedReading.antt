-- Worked states are read again, and with one byte changed they are refused at the unit at fault:
-- each is closed by computing.
use Rattle.std.proofs.Common.{◌≡◌, ℕ, [], ◌∷◌, ◌++◌, map, replicate, take, Some, refl}
use Rattle.std.specs.Prelude.{Result, Ok, Err, slice_set}
use Rattle.base.specs.Levels.{Levels}
use Rattle.base.specs.declared.faults.ResumeFault.{ResumeFault}
use Rattle.base.specs.declared.faults.ResumeFault.TheVariants.{BadState}
use Rattle.sharing_rules.specs.Places.{count_places, first_place}
use Rattle.sharing_rules.specs.Pairs.{best_pair_of}
use Rattle.sharing_rules.specs.Words.{words_since}
use Rattle.sharing_rules.specs.Arrivals.{arrivals}
use Rattle.saved_state.specs.OfLists.{state_in, state_of_list}
use Rattle.saved_state.specs.Reading.{Found, read_state}
use Rattle.saved_state.specs.Spelling.{spell_head, spell_header, spell_line, spell_state}
use Rattle.saved_state.specs.Spelling.{spell_word}
use Rattle.saved_state.specs.Units.{header_in, line_in, track_in}
use Rattle.saved_state.proofs.Worked.{across, grid, nothing, one_line}

-- what follows is left
nothing_read : read_state (spell_state nothing ++ 7 ∷ []) ≡ Ok (nothing, 64)
unfolding header_in spell_header
nothing_read = refl

one_read : read_state (spell_state one_line ++ 7 ∷ []) ≡ Ok (one_line, 432)
unfolding header_in line_in track_in spell_header spell_line spell_head spell_word
one_read = refl

-- two observed lines, a shifted and a doubled one
abbrev levels : Levels
levels = record { tracking = 1; prediction = Some 2; report = 1 }

across_read : read_state (state_of_list grid levels 2 across)
    ≡ Ok (state_in grid levels 2 across, 1824)
unfolding first_place count_places best_pair_of words_since arrivals header_in line_in track_in
    spell_header spell_line spell_head
    spell_word
across_read = refl

-- a front of one line and its track
abbrev front : ℕ → Result Found ResumeFault
front n = read_state (take n (spell_state one_line))

fronts_refused : map front (0 ∷ 63 ∷ 64 ∷ 79 ∷ 80 ∷ 111 ∷ 431 ∷ [])
    ≡ Err (BadState 0) ∷ Err (BadState 0) ∷ Err (BadState 64)
    ∷ Err (BadState 64) ∷ Err (BadState 80) ∷ Err (BadState 80) ∷ Err (BadState 80) ∷ []
unfolding header_in line_in track_in spell_header spell_line spell_head spell_word
fronts_refused = refl

-- the same with another byte at a place
abbrev changed : ℕ × ℕ → Result Found ResumeFault
changed p = read_state (slice_set (spell_state one_line) p.0 p.1)

-- magic, size, offset, tracking, harts, both zero fields, position
headers_refused : map changed ((7, 0x32) ∷ (8, 63) ∷ (12, 2) ∷ (16, 0) ∷ (32, 0) ∷ (33, 1) ∷ (34, 1)
    ∷ (36, 1) ∷ (46, 1) ∷ [])
    ≡ replicate 9 (Err (BadState 0))
unfolding header_in line_in track_in spell_header spell_line spell_head spell_word
headers_refused = refl

-- a base within the line, no write, more writes than accesses
lines_refused : map changed ((64, 4) ∷ (72, 0) ∷ (72, 4) ∷ []) ≡ replicate 3 (Err (BadState 64))
unfolding header_in line_in track_in spell_header spell_line spell_head spell_word
lines_refused = refl

-- A kind that isn't predicted, or that there isn't; too many entries, too few, and none; a hart
-- that there isn't, and one hart twice; a
-- zero field; a base within the line; a start and a count past the end; too many accesses; an owner
-- that there isn't; a zero field.
tracks_refused : map changed ((80, 1) ∷ (80, 3) ∷ (81, 3) ∷ (81, 1) ∷ (81, 0) ∷ (82, 2) ∷ (82, 0)
    ∷ (86, 1) ∷ (88, 4) ∷ (96, 3) ∷ (104, 3)
    ∷ (112, 2) ∷ (128, 0) ∷ (130, 1) ∷ []) ≡ replicate 14 (Err (BadState 80))
unfolding header_in line_in track_in spell_header spell_line spell_head spell_word
tracks_refused = refl

-- no track where one is due, and one more than there are bytes
missing_refused : map changed ((56, 0) ∷ (56, 2) ∷ []) ≡ Err (BadState 80) ∷ Err (BadState 432) ∷ []
unfolding header_in line_in track_in spell_header spell_line spell_head spell_word
missing_refused = refl
