use Rattle.std.proofs.Common.{◌≡◌, ◌++◌, string_bytes, take}
use Rattle.std.specs.List.{flat_map}
use Rattle.base.specs.TextLines.{text_of}
use Rattle.misses.specs.Texts.{miss_lines}
use Rattle.misses.proofs.text.push_rows.Given as goal

abbrev pub invariant-loop-row : goal.invariant-loop-row
invariant-loop-row l = string_bytes l.text ≡ string_bytes l.fn.text ++ text_of
    (flat_map (miss_lines l.index l.end) (take l.row-index l.rows))
