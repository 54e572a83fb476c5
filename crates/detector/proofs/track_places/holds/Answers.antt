use Rattle.std.proofs.Common.{◌≡◌, Some, sym, ap, ◌∙◌}
use Rattle.std.proofs.lemmas.Option.{same_Some}
use Rattle.std.specs.Prelude.{slice_get}
use Rattle.base.specs.Ranges.{holds_address}
use Rattle.line_tracks.specs.TrackValue.{TrackValue}
use Rattle.sharing_rules.specs.Laws.Lists.{slice_get-seen}
use Rattle.detector.proofs.track_places.holds.Goals as goal

pub returns : goal.returns
returns c = λ x at.
    let read : slice_get c.args.tracks.now c.args.place ≡ Some c.index-all-place.result =
    slice_get-seen c.args.tracks.now c.all.result.now c.args.place c.index-all-place.result
    c.all.ensures c.requires c.index-all-place.is in
    c.contains.ensures.value
    ∙ ap (λ (z : TrackValue). holds_address z.range c.addr.result) (same_Some _ x (sym read ∙ at))
    ∙ ap (holds_address x.range) c.addr.ensures
