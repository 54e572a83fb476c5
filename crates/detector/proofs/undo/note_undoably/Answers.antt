use Rattle.std.proofs.Common.{sym, ap, ◌∙◌}
use Rattle.base.specs.Ranges.{holds_address}
use Rattle.line_tracks.specs.TrackValue.{mark_of}
use Rattle.detector.proofs.TouchLaws.{slice_get-get_or_at}
use Rattle.detector.proofs.UndoLaws.{touched-holds, touched-misses, undoes-note}
use Rattle.detector.proofs.undo.note_undoably.Goals as goal

pub returns-then-not-holds-clause-tracks : goal.returns-then-not-holds-clause-tracks
returns-then-not-holds-clause-tracks g c =
    let named = sym c.number.ensures ∙ c.in_ok-place.was in
    let at = slice_get-get_or_at c.args.tracks.now c.in_ok-place.place
    (c.requires.can.within c.in_ok-place.place named) in
    touched-misses c.args.position c.args.access c.args.tracks.now c.in_ok-place.place at.0
    c.args.place named at.1 (sym (c.holds.ensures at.0 at.1) ∙ c.if-not-holds.true)

pub mark-mark-requires-clause-holds : goal.mark-mark-requires-clause-holds
mark-mark-requires-clause-holds g c = λ x got.
    ap (λ a. holds_address x.range a) c.addr.ensures ∙ sym (c.holds.ensures x got)
    ∙ c.if-not-holds.false

pub note-requires-clause-ready : goal.note-requires-clause-ready
note-requires-clause-ready g c = λ x got. record {
  inside = sym (c.holds.ensures x got) ∙ c.if-not-holds.false;
  in_time = c.requires.can.in_time c.in_ok-place.place x
      (sym c.number.ensures ∙ c.in_ok-place.was) got;
}

pub returns-clause-tracks : goal.returns-clause-tracks
returns-clause-tracks g c =
    let named = sym c.number.ensures ∙ c.in_ok-place.was in
    let at = slice_get-get_or_at c.args.tracks.now c.in_ok-place.place
    (c.requires.can.within c.in_ok-place.place named) in
    c.note.ensures.exact at.0 at.1
    ∙ sym (touched-holds c.args.position c.args.access c.args.tracks.now c.in_ok-place.place at.0
    c.args.place named at.1 (sym (c.holds.ensures at.0 at.1) ∙ c.if-not-holds.false))

pub returns-clause-undo : goal.returns-clause-undo
returns-clause-undo g c =
    let at = slice_get-get_or_at c.args.tracks.now c.in_ok-place.place
    (c.requires.can.within c.in_ok-place.place (sym c.number.ensures ∙ c.in_ok-place.was)) in
    undoes-note c.args.tracks.now c.note.new.self c.in_ok-place.place c.args.position c.args.access
    at.0 c.mark-mark.result at.1 (c.note.ensures.exact at.0 at.1)
    (c.mark-mark.ensures.value at.0 at.1 ∙ ap (mark_of at.0) c.addr.ensures)
    (c.mark-mark.ensures.undoes at.0 at.1 c.args.position c.args.access (sym c.addr.ensures))
