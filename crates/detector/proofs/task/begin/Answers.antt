use Rattle.std.proofs.Common.{ℕ, ◌++◌, ◌∷◌, [], sym, ap, ◌∙◌, subst}
use Rattle.std.proofs.lemmas.Option.{same_Some, slice_get_within}
use Rattle.std.specs.Prelude.{slice_set}
use Rattle.base.specs.Ranges.{holds_address, line_range}
use Rattle.base.specs.Lines.{line_number}
use Rattle.base.specs.declared.layout.Range.{Range}
use Rattle.sharing_rules.specs.declared.line_kind.LineKind.TheVariants.{Observed}
use Rattle.line_tracks.specs.TrackValue.{CanNote, TrackValue, note_kept, waiting}
use Rattle.detector.proofs.TaskLaws.{added-at, set_end}
use Rattle.detector.proofs.task.begin.Goals as goal

pub note-requires-clause-there : goal.note-requires-clause-there
note-requires-clause-there g c =
    let at = added-at c.args.tracks.now c.add.new.tracks (waiting Observed c.line_of.result)
    c.in-Ok.place c.in-Ok.ensures.added c.in-Ok.ensures.place in
    slice_get_within c.add.new.tracks c.in-Ok.place (waiting Observed c.line_of.result) at

pub note-requires-clause-ready : goal.note-requires-clause-ready
note-requires-clause-ready g c = λ x got.
    let at = added-at c.args.tracks.now c.add.new.tracks (waiting Observed c.line_of.result)
    c.in-Ok.place c.in-Ok.ensures.added c.in-Ok.ensures.place in
    subst (λ (z : TrackValue). CanNote z c.args.position c.args.access.addr)
    (same_Some (waiting Observed c.line_of.result) x (sym at ∙ got))
    (record {
      inside = ap (holds_address c.line_of.result) (sym c.addr.ensures)
          ∙ c.line_of.ensures.line.holds;
      in_time = tt;
    })

pub returns-in-Ok-clause-begun : goal.returns-in-Ok-clause-begun
returns-in-Ok-clause-begun g c =
    let at = added-at c.args.tracks.now c.add.new.tracks (waiting Observed c.line_of.result)
    c.in-Ok.place c.in-Ok.ensures.added c.in-Ok.ensures.place in
    c.note.ensures.exact (waiting Observed c.line_of.result) at
    ∙ ap (λ zs. slice_set zs c.in-Ok.place (note_kept
    (waiting Observed c.line_of.result) c.args.position c.args.access))
    c.in-Ok.ensures.added
    ∙ set_end c.args.tracks.now (waiting Observed c.line_of.result)
    (note_kept (waiting Observed c.line_of.result) c.args.position c.args.access) c.in-Ok.place
    c.in-Ok.ensures.place
    ∙ ap (λ (r : Range). c.args.tracks.now ++ note_kept
    (waiting Observed r) c.args.position c.args.access ∷ [])
    (c.line_of.ensures.value
    ∙ ap (λ (a : ℕ). line_range c.args.layout.size c.args.layout.offset
    (line_number c.args.layout.size c.args.layout.offset a))
    c.addr.ensures)
