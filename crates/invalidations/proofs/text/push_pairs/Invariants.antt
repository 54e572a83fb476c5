use Rattle.std.proofs.Common.{◌≡◌, ◌∷◌, ◌++◌, [], codes, length, map, string_bytes, take}
use Rattle.std.specs.Fmt.{decimal}
use Rattle.base.specs.TextLines.{text_of}
use Rattle.invalidations.specs.Text.{pair_line}
use Rattle.invalidations.proofs.text.push_pairs.Given as goal

abbrev pub invariant-loop-pair : goal.invariant-loop-pair
invariant-loop-pair l = string_bytes l.text ≡ string_bytes l.fn.text
    ++ text_of ((codes "pairs" ∷ decimal (length l.pairs) ∷ []) ∷ map pair_line (take l.pair-index l.pairs))
