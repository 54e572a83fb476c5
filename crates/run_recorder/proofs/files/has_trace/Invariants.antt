use Rattle.std.proofs.Common.{◌≡◌, drop}
use Rattle.run_recorder.specs.Recording.{has_trace}
use Rattle.run_recorder.proofs.files.has_trace.Given as goal

abbrev pub invariant-loop-place : goal.invariant-loop-place
invariant-loop-place l = has_trace (drop l.place l.files) ≡ has_trace l.files
