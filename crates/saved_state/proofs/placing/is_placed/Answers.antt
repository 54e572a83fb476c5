use Rattle.std.proofs.Common.{◌≡◌, ◌∙◌, ◌&&◌, List, ap, sym, true}
use Rattle.std.specs.List.{list_all}
use Rattle.line_tracks.specs.TrackValue.{TrackValue}
use Rattle.line_tracks.specs.Placed.{is_placed_before}
use Rattle.saved_state.specs.Parts.{header_meant, kept_of}
use Rattle.saved_state.specs.Units.{is_kind_placed}
use Rattle.saved_state.specs.Saving.{counted_lines}
use Rattle.saved_state.proofs.placing.is_placed.Goals as goal

pub returns-then-comes_last-clause-value : goal.returns-then-comes_last-clause-value
returns-then-comes_last-clause-value g c =
    let h = header_meant c.args.header.now in
    let w = c.args.detector.now in
    let x = kept_of c.args.track.now in
    let all : list_all (λ y. is_placed_before y x) w.tracks ≡ true =
    ap (λ (ts : List TrackValue). list_all (λ y. is_placed_before y x) ts) (sym c.tracks.ensures.value)
    ∙ sym c.comes_last.ensures ∙ c.if-comes_last.true in
    c.is_kind_placed.ensures
    ∙ sym (ap (λ b. b && is_kind_placed h (counted_lines w.writes) w.tracks x x.kind) all)
