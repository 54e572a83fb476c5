-- What accesses change of any value of a detector.
use Rattle.std.proofs.Common.{◌≡◌, ℕ, ◌+◌, ◌<◌, true, eqb, List, [], ◌∷◌, ◌++◌, length, map}
use Rattle.std.proofs.Common.{Some, refl, sym, ap, ◌∙◌, append-nil, append_assoc, arith, inl, inr}
use Rattle.std.proofs.Common.{◌&&◌}
use Rattle.std.proofs.lemmas.Bool.{and_parts, cases_Bool, eqb-true, not-true}
use Rattle.std.proofs.lemmas.List.{length-map}
use Rattle.std.proofs.lemmas.Option.{slice_get-map, slice_get_cases, none-some}
use Rattle.std.specs.Prelude.{if◌then◌else◌, not, option_map, slice_get}
use Rattle.base.specs.Touch.{Touch, is_write}
use Rattle.sharing_rules.specs.Laws.Lists.{slice_get-append_left}
use Rattle.line_tracks.specs.TrackValue.{TrackValue}
use Rattle.detector.specs.Changes.{AddNoTracks, adds_no_track, touched_all, watched_all}
use Rattle.detector.specs.Counts.{count_at}
use Rattle.detector.specs.Named.{number_of}
use Rattle.detector.specs.Openings.{opened_tracks}
use Rattle.detector.specs.Watch.{Watch, begins_track, begun, opens_at, searches_at, touched}
use Rattle.detector.specs.Watch.{tracks_noted, watched}
use Rattle.detector.proofs.CountLaws.{count_at-with_write}

pub writes_counted : (w : Watch) (a : Touch) (k : ℕ) → count_at (watched w a).writes k
    ≡ (if is_write a.kind && eqb k (number_of w.grid a) then count_at w.writes k + 1
    else count_at w.writes k)
writes_counted w a k = elim (cases_Bool (is_write a.kind)) [
  | inr reads ↦ rw reads refl
  | inl writes ↦ rw writes (count_at-with_write w.writes (number_of w.grid a) k
      ∙ elim (cases_Bool (eqb k (number_of w.grid a))) [
        | inl here ↦ rw here (ap (λ j. count_at w.writes j + 1)
            (sym (eqb-true k (number_of w.grid a) here)))
        | inr other ↦ rw other refl
      ])
]

-- the tracks that were there stand before those that are added
pub tracks_touched : (w : Watch) (a : Touch) (i : ℕ) (x : TrackValue) → slice_get w.tracks i ≡ Some x
    → slice_get (watched w a).tracks i ≡ Some (touched w.position a x)
tracks_touched w a i x at =
    let k = number_of w.grid a in
    let old = map (touched w.position a) w.tracks in
    let own : List TrackValue = if begins_track w.levels.tracking w.writes k a
    then begun w.grid k w.position a ∷ [] else [] in
    let more = opened_tracks (opens_at w k a (tracks_noted w k a)) in
    let within : i < length w.tracks = elim (slice_get_cases w.tracks i).1 [
      | inl (y, less, got, read) ↦ less
      | inr (past, got) ↦ absurd (none-some x (sym got ∙ at))
    ] in
    let there : i < length old = omega (arith, within, length-map w.tracks (touched w.position a))
    in
    ap (λ ts. slice_get ts i) (append_assoc old own more)
    ∙ slice_get-append_left old (own ++ more) i there
    ∙ slice_get-map (touched w.position a) w.tracks i ∙ ap (option_map (touched w.position a)) at

-- an access at which nothing begins and nothing is searched
kept_alone : (w : Watch) (a : Touch) → adds_no_track w a ≡ true → (watched w a).tracks
    ≡ map (touched w.position a) w.tracks
kept_alone w a none =
    let k = number_of w.grid a in
    let parts = and_parts (not (begins_track w.levels.tracking w.writes k a))
    (not (searches_at w a)) none in
    let begins = not-true (begins_track w.levels.tracking w.writes k a) parts.0 in
    let searches = not-true (searches_at w a) parts.1 in
    rw (searches, begins) (simp append-nil)

map-twice : (f g : TrackValue → TrackValue) (xs : List TrackValue) → map g (map f xs) ≡ map (λ x. g (f x)) xs
map-twice f g [] = refl
map-twice f g (x ∷ xs) = ap (λ ys. g (f x) ∷ ys) (map-twice f g xs)

map-itself : (xs : List TrackValue) → xs ≡ map (λ x. x) xs
map-itself [] = refl
map-itself (x ∷ xs) = ap (λ ys. x ∷ ys) (map-itself xs)

pub none_added : (w : Watch) (t : List Touch) → AddNoTracks w t → (watched_all w t).tracks
    ≡ map (touched_all w.position t) w.tracks
none_added w [] none = map-itself w.tracks
none_added w (a ∷ t) none =
    none_added (watched w a) t none.1
    ∙ ap (map (touched_all (w.position + 1) t)) (kept_alone w a none.0)
    ∙ map-twice (touched w.position a) (touched_all (w.position + 1) t) w.tracks
