use Rattle.std.proofs.Common.{◌≡◌, ◌∙◌, ◌+◌, ℕ, List, None, Some, Err, ap, drop, refl, sym, subst}
use Rattle.std.proofs.lemmas.Option.{none-some}
use Rattle.std.specs.Prelude.{IfSome, Option, option_map}
use Rattle.base.specs.declared.faults.ResumeFault.{ResumeFault}
use Rattle.saved_state.specs.Parts.{header_meant, kept_of}
use Rattle.saved_state.specs.Spelling.{spell_track}
use Rattle.saved_state.specs.Units.{IsSized, track_in}
use Rattle.saved_state.specs.declared.state_parts.SavedTrack.{SavedTrack}
use Rattle.line_tracks.specs.TrackValue.{IsBlank, IsInTime}
use Rattle.saved_state.specs.Ready.{IsReady, tracks_at, tracks_read}
use Rattle.saved_state.specs.Saving.{counted_lines}
use Rattle.saved_state.proofs.AddLaws.{bad_track, can_add_track, next_track, placed_track}
use Rattle.saved_state.proofs.AddLaws.{ready_track, unplaced_track}
use Rattle.saved_state.proofs.LoopLaws.{no_unit}
use Rattle.saved_state.proofs.resumed_tracks.next_track.Goals as goal

blank_without : (y : SavedTrack) → (y.start ≡ None → IsBlank (kept_of y)) → (kept_of y).start ≡ None
    → IsBlank (kept_of y)
blank_without y blank none = blank (no_start y.start none)
  where
    no_start : (o : Option (ℕ × List ℕ)) → option_map (λ (s : ℕ × List ℕ). s.0) o ≡ None → o ≡ None
    no_start None e = refl
    no_start (Some s) e = absurd (none-some s.0 (sym e))

pub returns-in-Ok-None-clause-refused : goal.returns-in-Ok-None-clause-refused
returns-in-Ok-None-clause-refused g c = λ more memory.
    let h = header_meant c.args.header.now in
    let w = c.args.detector.now in
    no_unit (track_in h (counted_lines w.writes)) spell_track
    (tracks_at w c.args.rest.place c.args.rest.bytes.now) more
    (bad_track h w c.args.rest.bytes.now (sym c.in-Ok-None.ensures.value
    ∙ ap (option_map kept_of) c.in-Ok-None.field-0-is))
    ∙ ap (λ (f : ResumeFault). Err f) (sym c.fault_at.ensures)

pub returns-then-not-is_placed-clause-refused : goal.returns-then-not-is_placed-clause-refused
returns-then-not-is_placed-clause-refused g c = λ more memory.
    let h = header_meant c.args.header.now in
    let w = c.args.detector.now in
    let x = kept_of c.in-Ok-Some.track in
    let misplaced = sym c.is_placed.ensures.value ∙ c.if-not-is_placed.true in
    no_unit (track_in h (counted_lines w.writes)) spell_track
    (tracks_at w c.args.rest.place c.args.rest.bytes.now) more
    (unplaced_track h w x c.args.rest.bytes.now (sym c.in-Ok-Some.ensures.value ∙ ap
    (option_map kept_of) c.in-Ok-Some.field-0-is) misplaced)
    ∙ ap (λ (f : ResumeFault). Err f) (sym c.fault_at-then-not-is_placed.ensures)

pub add_track-requires : goal.add_track-requires
add_track-requires g c =
    let h = header_meant c.args.header.now in
    let w = c.args.detector.now in
    let x = kept_of c.in-Ok-Some.track in
    let is = c.in-Ok-Some.field-0-is in
    can_add_track h w x c.requires.ready c.is_placed.ensures.shaped
    (subst (λ (o : Option SavedTrack). IfSome o (λ y. IsSized h.grid (kept_of y))) is
    c.in-Ok-Some.ensures.sized)
    (subst (λ (o : Option SavedTrack). IfSome o (λ y. IsInTime (kept_of y) h.position)) is
    c.in-Ok-Some.ensures.in_time)
    (blank_without c.in-Ok-Some.track (subst (λ (o : Option SavedTrack). IfSome o
    (λ y. y.start ≡ None → IsBlank (kept_of y))) is
    c.in-Ok-Some.ensures.blank)) (sym c.is_placed.ensures.value ∙ c.if-not-is_placed.false)

pub returns-in-Ok-clause-read : goal.returns-in-Ok-clause-read
returns-in-Ok-clause-read g c = λ more.
    let h = header_meant c.args.header.now in
    let w = c.args.detector.now in
    let x = kept_of c.in-Ok-Some.track in
    let bytes = c.args.rest.bytes.now in
    let placed = sym c.is_placed.ensures.value ∙ c.if-not-is_placed.false in
    let size = c.length_of-size.ensures in
    let added = c.in-Ok.ensures.added in
    next_track h w x c.args.rest.place bytes more
    (placed_track h w x bytes (sym c.in-Ok-Some.ensures.value ∙ ap
    (option_map kept_of) c.in-Ok-Some.field-0-is) placed)
    ∙ (λ i. tracks_read h more (sym added i) (c.args.rest.place + sym size i)
    (drop (sym size i) bytes))

pub returns-in-Ok-clause-ready : goal.returns-in-Ok-clause-ready
returns-in-Ok-clause-ready g c =
    let h = header_meant c.args.header.now in
    let w = c.args.detector.now in
    subst (IsReady h) (sym c.in-Ok.ensures.added)
    (ready_track h w (kept_of c.in-Ok-Some.track) c.requires.ready
    (sym c.is_placed.ensures.value ∙ c.if-not-is_placed.false))
