use Rattle.std.proofs.Common.{sym, ◌∙◌}
use Rattle.detector.proofs.TouchLaws.{slice_get-get_or_at}
use Rattle.detector.proofs.UndoLaws.{touched-holds}
use Rattle.detector.proofs.track_places.note_held.Goals as goal

pub note-requires-clause-there : goal.note-requires-clause-there
note-requires-clause-there g c = c.requires.can.within c.in-Some.place (sym c.number.ensures ∙ c.in-Some.is)

pub note-requires-clause-ready : goal.note-requires-clause-ready
note-requires-clause-ready g c = λ x got. record {
  inside = c.requires.held c.in-Some.place x (sym c.number.ensures ∙ c.in-Some.is) got;
  in_time = c.requires.can.in_time c.in-Some.place x (sym c.number.ensures ∙ c.in-Some.is) got;
}

pub returns-in-Some-clause-tracks : goal.returns-in-Some-clause-tracks
returns-in-Some-clause-tracks g c =
    let named = sym c.number.ensures ∙ c.in-Some.is in
    let at = slice_get-get_or_at c.args.tracks.now c.in-Some.place
    (c.requires.can.within c.in-Some.place named) in
    c.note.ensures.exact at.0 at.1
    ∙ sym (touched-holds c.args.position c.args.access c.args.tracks.now c.in-Some.place at.0
    c.args.place named at.1 (c.requires.held c.in-Some.place at.0 named at.1))
