use Rattle.std.proofs.Common.{[]}
use Rattle.run_recorder.specs.Recording.{bytes_so_far}
use Rattle.run_recorder.proofs.Beginning.{BegunTo}
use Rattle.run_recorder.proofs.files.begin.Given as goal

abbrev pub invariant-loop-place : goal.invariant-loop-place
invariant-loop-place g l =
    BegunTo (bytes_so_far l.version l.harts [] []) l.files l.place l.outputs
    (g.S.Shelf.outside l.initial.shelf) (g.S.Shelf.outside l.shelf)
