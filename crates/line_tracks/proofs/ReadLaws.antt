-- The track at a place is the one that was read there.
use Rattle.std.proofs.Common.{◌≡◌, ℕ, List, Some, sym, ◌∙◌}
use Rattle.std.proofs.lemmas.Option.{same_Some}
use Rattle.std.specs.Prelude.{slice_get}
use Rattle.line_tracks.specs.TrackValue.{TrackValue}

pub same_held : (xs : List TrackValue) (i : ℕ) (x y : TrackValue) → slice_get xs i ≡ Some y → slice_get xs i
    ≡ Some x → x ≡ y
same_held xs i x y there e = same_Some x y (sym e ∙ there)
