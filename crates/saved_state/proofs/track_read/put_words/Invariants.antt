use Rattle.std.proofs.Common.{◌≡◌, ◌+◌, ◌-◌, ◌/◌, true, [], ◌++◌, replicate}
use Rattle.std.specs.Prelude.{sum_by}
use Rattle.sharing_rules.specs.Words.{accesses, tally}
use Rattle.saved_state.specs.Parts.{are_words}
use Rattle.saved_state.specs.Units.{words_at}
use Rattle.saved_state.proofs.track_read.put_words.Given as goal

-- the words before the place are put, and the others are blank
abbrev pub invariant-loop-i : goal.invariant-loop-i
invariant-loop-i l = record {
  range : l.shadow.range ≡ l.fn.shadow.range;
  words : l.shadow.words ≡ words_at l.i l.fn.bytes
      ++ replicate (l.fn.shadow.range.size / 4 - l.i) (tally []);
  left : l.left + sum_by accesses (words_at l.i l.fn.bytes) ≡ l.most;
  passes : are_words l.harts l.most l.i l.fn.bytes ≡ true;
}
