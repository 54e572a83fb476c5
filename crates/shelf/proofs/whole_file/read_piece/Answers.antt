use Rattle.std.proofs.Common.{arith}
use Rattle.std.proofs.lemmas.Grind.{common_steps}
use Rattle.shelf.proofs.Front.{front-more}
use Rattle.shelf.proofs.whole_file.read_piece.Goals as goal
use Rattle.shelf.specs.Fetch.{IsFront}
use Rattle.shelf.specs.Shelf.{Known, content}
use Rattle.shelf.specs.Laws.Known.{known_both, known_still}

pub returns-clause-front : goal.returns-clause-front
returns-clause-front g c =
    let a = g.S.Shelf.outside c.args.shelf.now in
    let b = g.S.Shelf.outside c.read_at.new.self in
    let front : Known b.held (λ files. IsFront (content files c.args.name.now) c.args.bytes.now.items) =
    known_still _ a.held b.held c.in_ok-count.ensures.only.held c.requires.front in
    known_both _ (λ files. front-more _ _ _ _ c.len.result c.in_ok-count.count (omega arith)
    (omega (arith, c.in_ok-count.ensures.bound))
    (grind (arith, common_steps)))
    front c.in_ok-count.ensures.bytes
