use Rattle.std.proofs.Common.{◌≡◌}
use Rattle.shelf.specs.Shelf.{OnlyReads}
use Rattle.trace_passes.specs.Cursors.{bytes_left}
use Rattle.trace_passes.proofs.Going.{IsAt}
use Rattle.trace_passes.proofs.passes.pass.Given as goal

abbrev pub invariant-pieces : goal.invariant-pieces
invariant-pieces g l = record {
  way : IsAt (g.S.Shelf.outside l.shelf).held l.name l.wanted
      (g.O.Observer.given l.fn.observer l.observer) (g.S.Shelf.outside l.fn.shelf).given
      (g.S.Shelf.outside l.shelf).given l.cursor;
  only : OnlyReads (g.S.Shelf.outside l.fn.shelf) (g.S.Shelf.outside l.shelf);
  quiet : (g.S.Shelf.outside l.shelf).read_faults ≡ (g.S.Shelf.outside l.fn.shelf).read_faults;
}

abbrev pub decreases-pieces : goal.decreases-pieces
decreases-pieces g l = bytes_left l.cursor
