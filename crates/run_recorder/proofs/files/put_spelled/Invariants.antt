use Rattle.run_recorder.specs.Recording.{trace_part}
use Rattle.run_recorder.proofs.Putting.{PutTo}
use Rattle.run_recorder.proofs.files.put_spelled.Given as goal

abbrev pub invariant-loop-place : goal.invariant-loop-place
invariant-loop-place g l =
    PutTo l.files (trace_part l.bytes) l.initial.outputs l.outputs l.place
    (g.S.Shelf.outside l.initial.shelf) (g.S.Shelf.outside l.shelf)
