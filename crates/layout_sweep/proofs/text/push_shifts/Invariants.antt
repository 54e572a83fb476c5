use Rattle.std.proofs.Common.{◌≡◌, ◌++◌, string_bytes, take, map}
use Rattle.base.specs.TextLines.{text_of}
use Rattle.layout_sweep.specs.Texts.{shift_line}
use Rattle.layout_sweep.proofs.text.push_shifts.Given as goal

abbrev pub invariant-loop-swept : goal.invariant-loop-swept
invariant-loop-swept l = string_bytes l.text ≡ string_bytes l.fn.text
    ++ text_of (map shift_line (take l.swept-index l.counts))
