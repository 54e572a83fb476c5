-- Recounts of worked lists, computed from the definitions.
use Rattle.std.proofs.Common.{◌≡◌, [], ◌∷◌, take, refl}
use Rattle.sharing_rules.specs.Places.{first_place, count_places}
use Rattle.sharing_rules.specs.Lines.{native_line, line_from}
use Rattle.sharing_rules.specs.Words.{words_since}
use Rattle.sharing_rules.specs.Pairs.{best_pair_of}
use Rattle.sharing_rules.specs.Listed.{listed}
use Rattle.sharing_rules.specs.Recounts.{recount, layout_of, plain_levels}
use Rattle.sharing_rules.specs.declared.line_kind.LineKind.TheVariants.{Observed, Shifted, Doubled}
use Rattle.sharing_rules.proofs.WorkedLists.{finding, native, predicting, rd, turns, wr}

-- Lines predicted from the third access on count two, and their recounts five: three up to their
-- start and two since.
late_lines : listed (native 64) (predicting 2) (turns 0x103c 0x1040)
    ≡ finding Shifted (line_from 64 0x1020) 3 2 ∷ (finding Doubled (line_from 128 0x1000) 3 2 ∷ [])
unfolding first_place count_places best_pair_of words_since
late_lines = refl

shifted_whole : recount (line_from 64 0x1020) (turns 0x103c 0x1040) ≡ 5
unfolding first_place count_places
shifted_whole = refl

shifted_before : recount (line_from 64 0x1020) (take 4 (turns 0x103c 0x1040)) ≡ 3
unfolding first_place count_places
shifted_before = refl

doubled_whole : recount (line_from 128 0x1000) (turns 0x103c 0x1040) ≡ 5
unfolding first_place count_places
doubled_whole = refl

-- the same range is listed with its recount under its own layout
listed_plainly : listed (layout_of (line_from 64 0x1020)) (plain_levels 1) (turns 0x103c 0x1040)
    ≡ finding Observed (line_from 64 0x1020) 0 5 ∷ []
unfolding first_place count_places
listed_plainly = refl

-- the first write is not counted, though it takes the line from a reader
read_before : recount (native_line 64 65) (rd 1 0x1000 ∷ (wr 0 0x1000 ∷ (wr 1 0x1000 ∷ []))) ≡ 1
unfolding first_place count_places
read_before = refl

-- nothing is counted of a line without a write
unwritten : recount (native_line 64 65) (rd 1 0x1000 ∷ (rd 0 0x1000 ∷ [])) ≡ 0
unfolding first_place count_places
unwritten = refl
