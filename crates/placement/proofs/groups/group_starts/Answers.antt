-- Where the groups begin, one group more.
use Rattle.std.proofs.Common.{◌≡◌, ℕ, suc, ◌+◌, ◌*◌, map, arith, ◌∙◌, ap, sym}
use Rattle.std.proofs.Common.{add-one, get_or, subst}
use Rattle.sharing_rules.specs.Places.{below}
use Rattle.placement.proofs.GroupSteps.{grown_table, long_table, read_table}
use Rattle.placement.specs.Groups.{group_count, group_room, group_size, group_start}
use Rattle.placement.specs.Laws.Groups.{count-few, rounded-up, size-few, start-few, start-next}
use Rattle.placement.proofs.groups.group_starts.Goals as goal

pub room_of-at-requires-clause-small : goal.room_of-at-requires-clause-small
room_of-at-requires-clause-small c =
    let os = c.args.owners.now in
    let long = long_table (group_size os) group_count c.args.sizes.now c.requires.sizes in
    let size = read_table (group_size os) group_count c.loop-group.group c.args.sizes.now
    c.requires.sizes (omega (arith, long, c.loop-group-test.true)) in
    let few = size-few os c.loop-group.group in
    omega (arith, size, few, c.requires.short)

pub overflow_add-at : goal.overflow_add-at
overflow_add-at c =
    let os = c.args.owners.now in
    let n = c.args.line in
    let g = c.loop-group.group in
    let long = long_table (group_size os) group_count c.args.sizes.now c.requires.sizes in
    let size = read_table (group_size os) group_count g c.args.sizes.now c.requires.sizes
    (omega (arith, long, c.loop-group-test.true)) in
    let few = size-few os g in
    let room = rounded-up n (4 * get_or c.args.sizes.now g 0) c.requires.some in
    let near = room.near in
    let starts = start-few n os g c.requires.some c.requires.few c.requires.short in
    omega (
      arith,
      size,
      few,
      near,
      starts,
      count-few,
      long,
      c.loop-group-test.true,
      c.loop-group.invariant.at,
      c.room_of-at.ensures,
      c.requires.early,
      c.requires.few,
      c.requires.short,
    )

pub loop-group-preserved : goal.loop-group-preserved
loop-group-preserved c =
    let os = c.args.owners.now in
    let n = c.args.line in
    let g = c.loop-group.group in
    let f : ℕ → ℕ = λ k. c.args.start + group_start n os k in
    let long = long_table (group_size os) group_count c.args.sizes.now c.requires.sizes in
    let size = read_table (group_size os) group_count g c.args.sizes.now c.requires.sizes
    (omega (arith, long, c.loop-group-test.true)) in
    let room : c.room_of-at.result ≡ group_room n os g =
    c.room_of-at.ensures ∙ ap (λ (k : ℕ). Rattle.placement.specs.Groups.rounded n (4 * k)) size in
    let next = start-next n os g in
    let at : c.loop-group.at + c.room_of-at.result ≡ f (suc g) =
    omega (arith, next, room, c.loop-group.invariant.at) in
    record {
      starts = subst (λ (k : ℕ). c.push-in-loop-group.new.self.items ≡ map f (below (suc k)))
          (sym (add-one g))
          (grown_table f g (c.loop-group.at + c.room_of-at.result) c.loop-group.starts.items
          c.push-in-loop-group.new.self.items c.loop-group.invariant.starts
          c.in_ok-push-2.ensures.items at);
      at = at ∙ ap f (sym (add-one g));
    }

pub returns : goal.returns
returns c =
    let os = c.args.owners.now in
    let f : ℕ → ℕ = λ k. c.args.start + group_start c.args.line os k in
    let long = long_table (group_size os) group_count c.args.sizes.now c.requires.sizes in
    let last : c.loop-group.group ≡ group_count =
    omega (arith, long, c.loop-group-test.false, c.loop-group.auto.group-end) in
    c.loop-group.invariant.starts ∙ ap (λ (k : ℕ). map f (below (suc k))) last
