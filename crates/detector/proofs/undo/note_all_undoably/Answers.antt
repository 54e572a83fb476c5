use Rattle.detector.proofs.UndoLaws.{sum_of_four}
use Rattle.detector.proofs.undo.note_all_undoably.Goals as goal

pub returns-clause-undos : goal.returns-clause-undos
returns-clause-undos g c = record {
  one = c.note_undoably-own.new.tracks;
  two = c.note_undoably-shifted.new.tracks;
  three = c.note_undoably-below.new.tracks;
  own = c.note_undoably-own.ensures.undo;
  shifted = c.note_undoably-shifted.ensures.undo;
  below = c.note_undoably-below.ensures.undo;
  doubled = c.note_undoably-doubled.ensures.undo;
}

pub returns-clause-steps : goal.returns-clause-steps
returns-clause-steps g c =
    sum_of_four c.args.places.own c.args.places.shifted c.args.places.below c.args.places.doubled
    c.args.steps.now c.note_undoably-own.new.steps c.note_undoably-shifted.new.steps
    c.note_undoably-below.new.steps c.note_undoably-doubled.new.steps
    c.note_undoably-own.ensures.steps c.note_undoably-shifted.ensures.steps
    c.note_undoably-below.ensures.steps c.note_undoably-doubled.ensures.steps
