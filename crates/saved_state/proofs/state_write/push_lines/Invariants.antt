use Rattle.std.proofs.Common.{◌≡◌, ◌++◌, take}
use Rattle.std.specs.Prelude.{flat_map}
use Rattle.saved_state.specs.Spelling.{spell_line}
use Rattle.saved_state.proofs.state_write.push_lines.Given as goal

abbrev pub invariant-loop-line : goal.invariant-loop-line
invariant-loop-line l = l.bytes.items ≡ l.fn.bytes.items
    ++ flat_map (spell_line l.layout) (take l.line-index l.lines)
