use Rattle.std.proofs.Common.{◌≡◌, ◌++◌, string_bytes, take}
use Rattle.std.specs.Prelude.{flat_map}
use Rattle.base.specs.TextLines.{text_of}
use Rattle.invalidations.specs.BlameRows.{gathered_at, with_rows}
use Rattle.invalidations.specs.BlameText.{lines_of_line}
use Rattle.invalidations.proofs.blame_text.push_lines.Given as goal

abbrev pub invariant-loop-head : goal.invariant-loop-head
invariant-loop-head l = string_bytes l.text ≡ string_bytes l.fn.text ++ text_of
    (flat_map (λ h. lines_of_line
    (with_rows (gathered_at l.pairs.entries) (gathered_at l.harts.entries) h))
    (take l.head-index l.heads))
