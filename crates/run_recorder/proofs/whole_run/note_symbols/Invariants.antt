use Rattle.run_recorder.proofs.Symbols.{SymbolsNoted}
use Rattle.run_recorder.proofs.whole_run.note_symbols.Given as goal

abbrev pub invariant-loop-place : goal.invariant-loop-place
invariant-loop-place g l =
    SymbolsNoted g.O.Observer.given l.symbols l.place l.initial.observer l.observer l.files
    l.initial.outputs l.outputs l.initial.speller.writer l.speller.writer
    (g.S.Shelf.outside l.initial.shelf) (g.S.Shelf.outside l.shelf)
