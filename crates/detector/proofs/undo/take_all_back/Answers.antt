use Rattle.detector.proofs.UndoLaws.{taken-on}
use Rattle.detector.proofs.undo.take_all_back.Goals as goal

pub take_back-requires : goal.take_back-requires
take_back-requires c = let w = c.requires.1 in (w.three, w.doubled)

pub take_back-requires-2 : goal.take_back-requires-2
take_back-requires-2 c =
    let w = c.requires.1 in
    let back = c.take_back.ensures w.three w.doubled in
    (w.two, taken-on c.args.undos.below _ w.three w.two back w.below)

pub take_back-requires-3 : goal.take_back-requires-3
take_back-requires-3 c =
    let w = c.requires.1 in
    let back = c.take_back.ensures w.three w.doubled in
    let further = c.take_back-2.ensures w.two
    (taken-on c.args.undos.below _ w.three w.two back w.below) in
    (w.one, taken-on c.args.undos.shifted _ w.two w.one further w.shifted)

pub take_back-requires-4 : goal.take_back-requires-4
take_back-requires-4 c =
    let w = c.requires.1 in
    let back = c.take_back.ensures w.three w.doubled in
    let further = c.take_back-2.ensures w.two
    (taken-on c.args.undos.below _ w.three w.two back w.below) in
    let third = c.take_back-3.ensures w.one
    (taken-on c.args.undos.shifted _ w.two w.one further w.shifted) in
    (c.requires.0, taken-on c.args.undos.own _ w.one c.requires.0 third w.own)

pub returns : goal.returns
returns c = λ xs w.
    let back = c.take_back.ensures w.three w.doubled in
    let further = c.take_back-2.ensures w.two
    (taken-on c.args.undos.below _ w.three w.two back w.below) in
    let third = c.take_back-3.ensures w.one
    (taken-on c.args.undos.shifted _ w.two w.one further w.shifted) in
    c.take_back-4.ensures xs (taken-on c.args.undos.own _ w.one xs third w.own)
