use Rattle.std.proofs.Common.{◌≡◌, Bool, List, map, rules, subst}
use Rattle.std.proofs.lemmas.List.Sorted.{IsPermutation-map, answers_always}
use Rattle.std.specs.Cmp.{IsStrictWeakOrder}
use Rattle.std.specs.List.Sorted.{IsPermutation}
use Rattle.sharing_rules.specs.Laws.Orders.{in_order-from_sorted}
use Rattle.line_tracks.specs.TrackValue.{TrackValue}
use Rattle.line_tracks.specs.Placed.{is_placed_before}
use Rattle.line_tracks.specs.Laws.Placed.{is_placed_before-ranks}
use Rattle.saved_state.specs.WrittenParts.{track_of}
use Rattle.saved_state.specs.declared.track_order.TrackRef.{TrackRef}
use Rattle.saved_state.proofs.Sorted.{sorted-map}
use Rattle.saved_state.proofs.track_order.in_order.Goals as goal

abbrev is_before : TrackRef → TrackRef → Bool
is_before x y = is_placed_before (track_of x) (track_of y)

refs-rank : IsStrictWeakOrder is_before
refs-rank = record {
  one_way = λ x y h. is_placed_before-ranks.one_way (track_of x) (track_of y) h;
  chain = λ x y z h k. is_placed_before-ranks.chain (track_of x) (track_of y) (track_of z) h k;
}

pub returns : goal.returns
returns c =
    let refs = c.in_ok-refs.refs.items in
    let sorted = c.sort_by.new.self.items in
    let shown : map track_of refs ≡ c.args.tracks.now = c.in_ok-refs.ensures in
    in_order-from_sorted is_placed_before is_placed_before-ranks c.args.tracks.now
    (map track_of sorted) c.requires
    (subst (λ (xs : List TrackValue). IsPermutation xs (map track_of sorted)) shown
    (IsPermutation-map track_of refs sorted c.in_ok-sort_by.ensures.permutation))
    (sorted-map track_of is_placed_before sorted
    (c.in_ok-sort_by.ensures.sorted is_before refs-rank
    (answers_always _ _ _ (λ f a r g called. search rules))))
