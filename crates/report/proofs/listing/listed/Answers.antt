use Rattle.std.proofs.Common.{◌≡◌, map, rules, ap, ◌∙◌, Bool}
use Rattle.std.proofs.lemmas.List.Sorted.{answers_always}
use Rattle.sharing_rules.specs.Listed.{in_order}
use Rattle.report.specs.ListedTracks.{track_shown}
use Rattle.report.specs.Shown.{is_shown_before}
use Rattle.report.specs.declared.listing.ListedTrack.{ListedTrack}
use Rattle.report.specs.Laws.Shown.{by_shown-ranks, in_order-map}
use Rattle.report.specs.Laws.Stable.{in_order-from_stable}
use Rattle.report.proofs.listing.listed.Goals as goal

-- which of two rows comes first
abbrev is_before : ListedTrack → ListedTrack → Bool
is_before x y = is_shown_before (track_shown x) (track_shown y)

pub returns : goal.returns
returns c =
    let sorted : c.sort_by.new.self.items ≡ in_order is_before c.in_ok-rows.rows.items =
    in_order-from_stable is_before (by_shown-ranks track_shown) c.in_ok-rows.rows.items
    c.sort_by.new.self.items
    (c.in_ok-sort_by.ensures.sorted is_before (by_shown-ranks track_shown)
    (answers_always _ _ _ (λ f a r g called. search rules)))
    (c.in_ok-sort_by.ensures.stable is_before (by_shown-ranks track_shown)
    (answers_always _ _ _ (λ f a r g called. search rules))) in
    ap (map track_shown) sorted ∙ in_order-map track_shown is_shown_before c.in_ok-rows.rows.items
    ∙ ap (in_order is_shown_before) c.in_ok-rows.ensures
