use Rattle.std.proofs.Common.{◌≡◌, ◌++◌, map, string_bytes, take}
use Rattle.base.specs.TextLines.{text_of}
use Rattle.invalidations.specs.Text.{hart_line}
use Rattle.invalidations.proofs.blame_text.push_harts.Given as goal

abbrev pub invariant-loop-pair : goal.invariant-loop-pair
invariant-loop-pair l = string_bytes l.text ≡ string_bytes l.fn.text
    ++ text_of (map hart_line (take l.pair-index l.harts))
