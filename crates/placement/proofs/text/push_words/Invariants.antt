use Rattle.std.proofs.Common.{◌≡◌, ◌++◌, filter_map, string_bytes}
use Rattle.base.specs.TextLines.{text_of}
use Rattle.sharing_rules.specs.Places.{below}
use Rattle.placement.specs.Texts.{touched_line}
use Rattle.placement.proofs.text.push_words.Given as goal

abbrev pub invariant-loop-i : goal.invariant-loop-i
invariant-loop-i l = string_bytes l.text ≡ string_bytes l.fn.text
    ++ text_of (filter_map (touched_line l.owners l.plan) (below l.i))
