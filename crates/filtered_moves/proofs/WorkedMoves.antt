-- Worked moves of filtered lists, with ranges of 64 bytes.
use Rattle.std.proofs.Common.{◌≡◌, ℕ, List, [], ◌∷◌, refl}
use Rattle.std.proofs.lemmas.Bool.{false≢true}
use Rattle.std.proofs.lemmas.List.Elements.{recursion_from_All}
use Rattle.std.specs.List.{AllByRecursion}
use Rattle.std.specs.Prelude.{IsTrue}
use Rattle.base.specs.Touch.{Touch}
use Rattle.base.specs.declared.access.Kind.TheVariants.{Read, Write}
use Rattle.sharing_rules.specs.Filtered.{filtered, is_near}
use Rattle.trace_files.specs.NearMoves.{IsNearFor, IsNearTable, origin}
use Rattle.trace_files.specs.Moves.{is_in_place, moved_addr, moved_list}
use Rattle.trace_files.specs.declared.move_row.Move.{Move}

abbrev wr : ℕ → ℕ → Touch
wr h a = record { hart = h; addr = a; kind = Write; size = 4 }

abbrev rd : ℕ → ℕ → Touch
rd h a = record { hart = h; addr = a; kind = Read; size = 4 }

-- two harts in words that aren't near
abbrev apart : List Touch
apart = wr 0 0x1000 ∷ rd 1 0x2000 ∷ wr 0 0x1000 ∷ rd 1 0x2000 ∷ []

apart_filtered : filtered 6 apart ≡ wr 0 0x1000 ∷ rd 1 0x2000 ∷ []
unfolding filtered
apart_filtered = refl

-- one of them is moved beside the other: then none is redundant, and half of the list is missing
abbrev beside : List Move
beside = record { from = 0x2000; size = 4; to = 0x1040 } ∷ []

beside_filtered : filtered 6 (moved_list beside apart)
    ≡ wr 0 0x1000 ∷ rd 1 0x1040 ∷ wr 0 0x1000 ∷ rd 1 0x1040 ∷ []
unfolding filtered moved_addr
beside_filtered = refl

-- so the table isn't near: byte 0x1040 comes from far
not_near : IsNearTable 6 beside (filtered 6 apart) → ⊥
unfolding filtered moved_addr
not_near near =
    let first = (recursion_from_All (IsNearFor 6 beside) (filtered 6 apart) near).0 in
    let moves : AllByRecursion (λ m. (byte : ℕ) → IsTrue (is_in_place byte m)
    → IsTrue (is_near 6 byte 0x1000) → IsTrue (is_near 6 (origin m byte) 0x1000)) beside =
    recursion_from_All (λ m. (byte : ℕ) → IsTrue (is_in_place byte m)
    → IsTrue (is_near 6 byte 0x1000) → IsTrue (is_near 6 (origin m byte) 0x1000)) beside first in
    false≢true (moves.0 0x1040 refl refl)
