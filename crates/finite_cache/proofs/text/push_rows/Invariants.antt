use Rattle.std.proofs.Common.{◌≡◌, ◌++◌, map, string_bytes, take}
use Rattle.base.specs.TextLines.{text_of}
use Rattle.finite_cache.specs.Texts.{row_line}
use Rattle.finite_cache.proofs.text.push_rows.Given as goal

abbrev pub invariant-loop-row : goal.invariant-loop-row
invariant-loop-row l = string_bytes l.text ≡ string_bytes l.fn.text ++ text_of
    (map row_line (take l.row-index l.rows))
