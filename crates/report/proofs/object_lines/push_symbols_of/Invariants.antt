use Rattle.std.proofs.Common.{◌≡◌, ◌++◌, string_bytes, take}
use Rattle.std.specs.Prelude.{filter_map, slice_get}
use Rattle.base.specs.TextLines.{text_of}
use Rattle.report.specs.Lines.{symbol_lines}
use Rattle.report.proofs.object_lines.push_symbols_of.Given as goal

abbrev pub invariant-loop-number : goal.invariant-loop-number
invariant-loop-number l = string_bytes l.text ≡ string_bytes l.fn.text ++ text_of
    (symbol_lines l.range (filter_map (slice_get l.objects.symbols) (take l.number-index l.numbers)))
