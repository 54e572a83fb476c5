use Rattle.trace_files.proofs.MadeGoing.{AreMade}
use Rattle.trace_files.proofs.maker.note_accesses.Given as goal

abbrev pub invariant-loop-place : goal.invariant-loop-place
invariant-loop-place g l =
    AreMade g.O.Observer.given l.place l.state l.initial.observer l.observer l.initial.file l.file
    (g.S.Shelf.outside l.initial.shelf) (g.S.Shelf.outside l.shelf)
