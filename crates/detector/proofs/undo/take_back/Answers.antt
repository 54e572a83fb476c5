use Rattle.std.proofs.Common.{◌∙◌, sym, subst}
use Rattle.std.proofs.lemmas.Option.{same_Some, slice_get_within}
use Rattle.line_tracks.specs.TrackValue.{CanRestore}
use Rattle.detector.specs.Noting.{Undoes}
use Rattle.detector.proofs.undo.take_back.Goals as goal

pub restore-requires-clause-there : goal.restore-requires-clause-there
restore-requires-clause-there c =
    let w = subst (λ o. Undoes o c.args.tracks.now c.requires.0) c.in-Some.is c.requires.1 in
    slice_get_within c.args.tracks.now c.in-Some.undo.place _ w.noted

pub restore-requires-clause-ready : goal.restore-requires-clause-ready
restore-requires-clause-ready c = λ x got.
    let w = subst (λ o. Undoes o c.args.tracks.now c.requires.0) c.in-Some.is c.requires.1 in
    subst (λ z. CanRestore z c.in-Some.undo.mark) (same_Some _ x (sym w.noted ∙ got)) w.ready

pub returns-in-Some : goal.returns-in-Some
returns-in-Some c = λ xs undo.
    let w = subst (λ o. Undoes o c.args.tracks.now xs) c.in-Some.is undo in
    c.restore.ensures.undoes w.track w.position w.access w.noted w.marked ∙ w.back

pub returns-in_default : goal.returns-in_default
returns-in_default c = λ xs undo. subst (λ o. Undoes o c.args.tracks.now xs) c.in_default.is undo
