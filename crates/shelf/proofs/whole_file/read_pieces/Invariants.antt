use Rattle.std.proofs.Common.{◌≡◌, ◌<◌, ◌≤◌, length, ◌+◌, ◌-◌}
use Rattle.shelf.specs.Shelf.{content, Known, OnlyReads}
use Rattle.shelf.specs.Fetch.{IsFront}
use Rattle.shelf.proofs.whole_file.read_pieces.Given as goal

abbrev pub invariant-loop-bytes : goal.invariant-loop-bytes
invariant-loop-bytes g l = record {
  room : 0 < length l.piece;
  capped : length l.bytes.items ≤ l.limit + 1;
  front : Known (g.S.Shelf.outside l.shelf).held
      (λ files. IsFront (content files l.name) l.bytes.items);
  only : OnlyReads (g.S.Shelf.outside l.fn.shelf) (g.S.Shelf.outside l.shelf);
  quiet : (g.S.Shelf.outside l.shelf).read_faults ≡ (g.S.Shelf.outside l.fn.shelf).read_faults;
}

abbrev pub decreases-loop-bytes : goal.decreases-loop-bytes
decreases-loop-bytes g l = l.limit + 1 - length l.bytes.items
