use Rattle.std.proofs.Common.{◌≡◌, ◌++◌, string_bytes, take}
use Rattle.base.specs.TextLines.{text_of}
use Rattle.report.specs.Lines.{word_lines}
use Rattle.report.proofs.lines.push_words.Given as goal

abbrev pub invariant-loop-i : goal.invariant-loop-i
invariant-loop-i l = string_bytes l.text ≡ string_bytes l.fn.text
    ++ text_of (word_lines l.fn.shadow.range (take l.i l.fn.shadow.words))
