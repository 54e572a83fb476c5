-- The entry behind those of the groups.
use Rattle.std.proofs.Common.{ℕ, suc, ◌+◌, ap, arith, ◌∙◌}
use Rattle.placement.proofs.GroupSteps.{long_table, read_entry}
use Rattle.placement.specs.Groups.{group_count, group_start}
use Rattle.placement.proofs.plan.area_end.Goals as goal

pub entry-requires : goal.entry-requires
entry-requires c =
    let f : ℕ → ℕ = λ g. c.args.start + group_start c.args.line c.args.owners.now g in
    let long = long_table f (suc group_count) c.args.starts.now.items c.requires.starts in
    omega (arith, long, c.group_total.ensures.value)

pub returns : goal.returns
returns c =
    let f : ℕ → ℕ = λ g. c.args.start + group_start c.args.line c.args.owners.now g in
    read_entry f (suc group_count) c.group_total.result c.entry.result c.args.starts.now.items
    c.requires.starts (omega (arith, c.group_total.ensures.value)) c.entry.ensures
    ∙ ap f c.group_total.ensures.value
