-- So many lines are read.
use Rattle.std.proofs.Common.{◌≡◌, ◌+◌, length}
use Rattle.saved_state.specs.Parts.{IsLast, header_meant}
use Rattle.saved_state.specs.Spelling.{spell_line}
use Rattle.saved_state.specs.Units.{line_in}
use Rattle.saved_state.specs.Ready.{IsReady, due_numbers, lines_at}
use Rattle.saved_state.specs.Saving.{counted_lines}
use Rattle.saved_state.proofs.LoopLaws.{GoesOn}
use Rattle.saved_state.proofs.resumed_lines.read_lines.Given as goal

abbrev pub invariant-loop : goal.invariant-loop
invariant-loop g l = record {
  on : GoesOn (line_in (header_meant l.header))
      (spell_line (header_meant l.header).grid) l.header.lines
      (lines_at l.initial.detector l.initial.rest.place l.initial.rest.bytes.now) l.counter
      (lines_at l.detector l.rest.place l.rest.bytes.now);
  few : l.rest.place + length l.rest.bytes.now ≡ l.initial.rest.place
      + length l.initial.rest.bytes.now;
  ready : IsReady (header_meant l.header) l.detector;
  due : l.due.items ≡ due_numbers (header_meant l.header) l.detector;
  last : IsLast (counted_lines l.detector.writes) l.last;
  tracks : l.detector.tracks ≡ l.initial.detector.tracks;
  levels : l.detector.levels ≡ l.initial.detector.levels;
}
