use Rattle.std.proofs.Common.{◌≡◌, ◌∷◌, ◌++◌, [], codes, length, map, string_bytes, take}
use Rattle.std.specs.Fmt.{decimal}
use Rattle.base.specs.TextLines.{text_of}
use Rattle.invalidations.specs.Text.{hart_line}
use Rattle.invalidations.proofs.text.push_harts.Given as goal

abbrev pub invariant-loop-pair : goal.invariant-loop-pair
invariant-loop-pair l = string_bytes l.text ≡ string_bytes l.fn.text
    ++ text_of ((codes "harts" ∷ decimal (length l.pairs) ∷ []) ∷ map hart_line (take l.pair-index l.pairs))
