use Rattle.shelf.proofs.OutputLists.{FinishedTo}
use Rattle.shelf.proofs.outputs.Outputs.finish.Given as goal

abbrev pub invariant-loop-place : goal.invariant-loop-place
invariant-loop-place g l =
    FinishedTo l.initial.self-inside.files.items l.self-inside.files.items l.place
    (g.S.Shelf.outside l.initial.shelf)
    (g.S.Shelf.outside l.shelf)
