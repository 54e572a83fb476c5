-- The sizes of the groups, one word more.
use Rattle.std.proofs.Common.{take, length, arith, refl}
use Rattle.std.proofs.lemmas.Option.{slice_get_read}
use Rattle.placement.proofs.GroupSteps.{long_table, sizes_few, sizes_next}
use Rattle.placement.specs.Groups.{group_count, group_size}
use Rattle.placement.proofs.groups.group_sizes.Goals as goal

pub add_word-requires-clause-within : goal.add_word-requires-clause-within
add_word-requires-clause-within c =
    let long = long_table (group_size (take c.loop-owner.owner-index c.args.owners.now)) group_count
    c.loop-owner.sizes.items c.loop-owner.invariant in
    omega (arith, long, c.group_of.ensures.small)

pub add_word-requires-clause-few : goal.add_word-requires-clause-few
add_word-requires-clause-few c = λ size at.
    let few = sizes_few c.args.owners.now c.loop-owner.owner-index c.group_of.result size
    c.loop-owner.sizes.items c.loop-owner.invariant c.group_of.ensures.small at in
    omega (arith, few, c.requires)

pub loop-owner-preserved : goal.loop-owner-preserved
loop-owner-preserved c =
    sizes_next c.args.owners.now c.loop-owner.owner-index c.group_of.result c.owner-item.result
    c.loop-owner.sizes.items c.add_word.new.sizes.items
    (slice_get_read c.args.owners.now (length c.args.owners.now) c.loop-owner.owner-index
    c.owner-item.result refl c.loop-owner-test.true c.owner-item.is)
    c.group_of.ensures.value c.group_of.ensures.small c.loop-owner.invariant c.add_word.ensures
