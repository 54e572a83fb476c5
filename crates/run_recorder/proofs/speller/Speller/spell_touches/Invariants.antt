use Rattle.std.proofs.Common.{take}
use Rattle.run_recorder.specs.Recording.{touch_records}
use Rattle.run_recorder.proofs.Spelled.{AreSpelled}
use Rattle.run_recorder.proofs.speller.Speller.spell_touches.Given as goal

abbrev pub invariant-loop-place : goal.invariant-loop-place
invariant-loop-place l =
    AreSpelled (touch_records l.version (take l.place l.touches)) l.initial.self.writer
    l.self.writer l.self.bytes.items
