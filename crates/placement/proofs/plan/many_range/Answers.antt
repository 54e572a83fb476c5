-- What the tables say of the group of many harts.
use Rattle.std.proofs.Common.{ℕ, suc, ◌+◌, ◌*◌, ap, arith, ◌∙◌, Some}
use Rattle.base.specs.declared.layout.Range.{Range}
use Rattle.placement.proofs.GroupSteps.{long_table, no_many, read_entry, some_many}
use Rattle.placement.specs.Groups.{group_count, group_size, group_start}
use Rattle.placement.specs.Laws.Groups.{count-few, rounded-up, size-few, start-few}
use Rattle.placement.proofs.plan.many_range.Goals as goal

pub entry-size-requires : goal.entry-size-requires
entry-size-requires c =
    let long = long_table (group_size c.args.owners.now) group_count c.args.sizes.now.items
    c.requires.sizes in
    omega (arith, long, c.many_group-group.ensures.small)

pub returns-then-size-eq0 : goal.returns-then-size-eq0
returns-then-size-eq0 c =
    let os = c.args.owners.now in
    let size = read_entry (group_size os) group_count c.many_group-group.result c.entry-size.result
    c.args.sizes.now.items c.requires.sizes c.many_group-group.ensures.small c.entry-size.ensures in
    no_many c.args.line c.args.start c.entry-size.result os
    (size ∙ ap (group_size os) c.many_group-group.ensures.value) c.if-size-eq0.true

pub entry-requires : goal.entry-requires
entry-requires c =
    let f : ℕ → ℕ = λ g. c.args.start + group_start c.args.line c.args.owners.now g in
    let long = long_table f (suc group_count) c.args.starts.now.items c.requires.starts in
    omega (arith, long, c.many_group-group.ensures.small)

pub room_of-requires-clause-small : goal.room_of-requires-clause-small
room_of-requires-clause-small c =
    let os = c.args.owners.now in
    let size = read_entry (group_size os) group_count c.many_group-group.result c.entry-size.result
    c.args.sizes.now.items c.requires.sizes c.many_group-group.ensures.small c.entry-size.ensures in
    let few = size-few os c.many_group-group.result in
    omega (arith, size, few, c.requires.short)

pub lines_at-requires-clause-early : goal.lines_at-requires-clause-early
lines_at-requires-clause-early c =
    let os = c.args.owners.now in
    let n = c.args.line in
    let g = c.many_group-group.result in
    let f : ℕ → ℕ = λ k. c.args.start + group_start n os k in
    let begin = read_entry f (suc group_count) g c.entry.result c.args.starts.now.items
    c.requires.starts (omega (arith, c.many_group-group.ensures.small)) c.entry.ensures in
    let few = start-few n os g c.requires.some c.requires.few c.requires.short in
    omega (arith, begin, few, count-few, c.many_group-group.ensures.small, c.requires.early)

pub lines_at-requires-clause-short : goal.lines_at-requires-clause-short
lines_at-requires-clause-short c =
    let os = c.args.owners.now in
    let size = read_entry (group_size os) group_count c.many_group-group.result c.entry-size.result
    c.args.sizes.now.items c.requires.sizes c.many_group-group.ensures.small c.entry-size.ensures in
    let few = size-few os c.many_group-group.result in
    let room = rounded-up c.args.line (4 * c.entry-size.result) c.requires.some in
    let near = room.near in
    omega (arith, size, few, near, c.room_of.ensures, c.requires.short, c.requires.few)

pub returns : goal.returns
returns c =
    let os = c.args.owners.now in
    let n = c.args.line in
    let g = c.many_group-group.result in
    let f : ℕ → ℕ = λ k. c.args.start + group_start n os k in
    let size = read_entry (group_size os) group_count g c.entry-size.result
    c.args.sizes.now.items c.requires.sizes c.many_group-group.ensures.small c.entry-size.ensures in
    let begin = read_entry f (suc group_count) g c.entry.result c.args.starts.now.items
    c.requires.starts (omega (arith, c.many_group-group.ensures.small)) c.entry.ensures in
    ap (λ (r : Range). Some r) c.lines_at.ensures
    ∙ some_many n c.args.start c.entry-size.result c.entry.result c.room_of.result os
    (size ∙ ap (group_size os) c.many_group-group.ensures.value) c.if-size-eq0.false
    (begin ∙ ap f c.many_group-group.ensures.value) c.room_of.ensures
