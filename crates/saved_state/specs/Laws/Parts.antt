-- Parts that are read one at a time, beside the units of a whole state.
use Rattle.std.proofs.Common.{◌≡◌, ℕ, ◌-◌, Bool, true, false, ◌&&◌, List, [], ◌∷◌, ◌++◌, length}
use Rattle.std.proofs.Common.{refl, ap, ◌∙◌, arith, slice_get}
use Rattle.std.proofs.lemmas.List.{length-append}
use Rattle.std.specs.Prelude.{nat_eq, Option, None, Some, if◌then◌else◌, option_map}
use Rattle.std.specs.Prelude.{option_and_then}
use Rattle.std.specs.List.{starts_with}
use Rattle.sharing_rules.specs.Laws.Lists.{slice_get-push}
use Rattle.line_tracks.specs.TrackValue.{TrackValue}
use Rattle.saved_state.specs.declared.state_parts.CountedLine.{CountedLine}
use Rattle.saved_state.specs.Parts.{IsLast}
use Rattle.saved_state.specs.Spelling.{Header, spell_track}
use Rattle.saved_state.specs.Units.{is_good_track, is_placed, track_alone, track_at, track_in}

-- the last line is the one that was put last
pub IsLast-push : (before : List CountedLine) (l : CountedLine)
    → IsLast (before ++ l ∷ []) (Some l.number)
IsLast-push before l =
    let at : length (before ++ l ∷ []) - 1 ≡ length before =
    omega (arith, length-append before (l ∷ [])) in
    ap (λ n. option_map (λ (x : CountedLine). x.number) (slice_get (before ++ l ∷ []) n)) at
    ∙ ap (option_map (λ (x : CountedLine). x.number)) (slice_get-push before l)

-- ---- a track by itself, and where it stands

placed_then : (good placed begins : Bool) (x : TrackValue)
    → (if good && placed && begins then Some x else None)
    ≡ (if good && begins then (if placed then Some x else None) else None)
placed_then true true begins x = refl
placed_then true false true x = refl
placed_then true false false x = refl
placed_then false placed begins x = refl

pub track_in-alone : (h : Header) (lines : List CountedLine) (before : List TrackValue) (bytes : List ℕ)
    → track_in h lines before bytes
    ≡ option_and_then (λ x. if is_placed h lines before x then Some x else None)
    (track_alone h bytes)
unfolding track_in track_alone
track_in-alone h lines before bytes =
    let x = track_at h.grid bytes in
    let good = is_good_track h x in
    let begins = starts_with nat_eq bytes (spell_track x) in
    placed_then good (is_placed h lines before x) begins x
    ∙ through (good && begins) x (λ y. if is_placed h lines before y then Some y else None)
  where
    through : (b : Bool) (x : TrackValue) (f : TrackValue → Option TrackValue)
        → (if b then f x else None) ≡ option_and_then f (if b then Some x else None)
    through true x f = refl
    through false x f = refl
