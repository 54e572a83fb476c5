use Rattle.std.proofs.Common.{◌≡◌, ◌++◌, take}
use Rattle.std.specs.Prelude.{flat_map}
use Rattle.saved_state.specs.Spelling.{spell_word}
use Rattle.saved_state.proofs.track_write.push_words.Given as goal

abbrev pub invariant-loop-i : goal.invariant-loop-i
invariant-loop-i l = l.bytes.items ≡ l.fn.bytes.items
    ++ flat_map spell_word (take l.i l.fn.shadow.words)
