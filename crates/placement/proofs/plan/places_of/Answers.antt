-- One word more that has its place.
use Rattle.std.proofs.Common.{◌≡◌, ℕ, suc, map, length, arith, ◌∙◌, sym}
use Rattle.std.proofs.Common.{add-one, refl, subst}
use Rattle.std.proofs.lemmas.Option.{same_Some, slice_get_read}
use Rattle.sharing_rules.specs.Places.{below}
use Rattle.placement.proofs.GroupSteps.{are_places_push, in_table, long_table, next_ends}
use Rattle.placement.proofs.GroupSteps.{next_of, place_even, places_next, table_push, word_placed}
use Rattle.placement.specs.Groups.{group_count}
use Rattle.placement.specs.Plans.{place_from}
use Rattle.placement.proofs.plan.places_of.Goals as goal

pub take_place-place-requires-clause-within : goal.take_place-place-requires-clause-within
take_place-place-requires-clause-within c =
    let long = long_table
    (next_of c.args.line c.args.start c.args.owners.now c.loop-owner.owner-index) (suc group_count)
    c.loop-owner.next.items c.loop-owner.invariant.next in
    omega (arith, long, c.group_of.ensures.small)

pub take_place-place-requires-clause-few : goal.take_place-place-requires-clause-few
take_place-place-requires-clause-few c = λ at found.
    let os = c.args.owners.now in
    let i = c.loop-owner.owner-index in
    let g = c.group_of.result in
    let f : ℕ → ℕ = next_of c.args.line c.args.start os i in
    let same : at ≡ f g = same_Some _ _ (sym found
    ∙ in_table f (suc group_count) g c.loop-owner.next.items c.loop-owner.invariant.next
    (omega (arith, c.group_of.ensures.small))) in
    let ends = next_ends c.args.line c.args.start os i g c.requires.some c.group_of.ensures.small in
    omega (arith, same, ends, c.requires.fits)

pub overflow_cast-place : goal.overflow_cast-place
overflow_cast-place c =
    let os = c.args.owners.now in
    let i = c.loop-owner.owner-index in
    let seen = slice_get_read os (length os) i c.owner-item.result refl c.loop-owner-test.true
    c.owner-item.is in
    let placed = word_placed c.args.line c.args.start os i c.group_of.result
    c.take_place-place.result c.owner-item.result c.loop-owner.next.items c.requires.some seen
    c.group_of.ensures.value c.group_of.ensures.small c.loop-owner.invariant.next
    c.take_place-place.ensures.taken in
    let fits = placed.fits in
    omega (arith, fits, c.requires.fits)

pub loop-owner-preserved : goal.loop-owner-preserved
loop-owner-preserved c =
    let os = c.args.owners.now in
    let n = c.args.line in
    let i = c.loop-owner.owner-index in
    let f : ℕ → ℕ = place_from n c.args.start os in
    let seen = slice_get_read os (length os) i c.owner-item.result refl c.loop-owner-test.true
    c.owner-item.is in
    let placed = word_placed n c.args.start os i c.group_of.result
    c.take_place-place.result c.owner-item.result c.loop-owner.next.items c.requires.some seen
    c.group_of.ensures.value c.group_of.ensures.small c.loop-owner.invariant.next
    c.take_place-place.ensures.taken in
    record {
      next = places_next n c.args.start os i c.group_of.result c.take_place-place.result
          c.owner-item.result c.loop-owner.next.items c.take_place-place.new.next.items seen
          c.group_of.ensures.value c.group_of.ensures.small c.loop-owner.invariant.next
          c.take_place-place.ensures.taken c.take_place-place.ensures.next;
      places = subst (λ (k : ℕ). c.push.new.self.items ≡ map f (below k)) (sym (add-one i))
          (table_push f i c.take_place-place.result c.loop-owner.places.items c.push.new.self.items
          c.loop-owner.invariant.places c.in_ok-push.ensures.items placed.is);
      whole = are_places_push c.loop-owner.places.items c.push.new.self.items
          c.take_place-place.result c.loop-owner.invariant.whole c.in_ok-push.ensures.items
          (place_even n c.args.start os i c.take_place-place.result c.requires.some c.requires.whole
          c.requires.even seen placed.is)
          (let fits = placed.fits in omega (arith, fits, c.requires.fits));
    }
