use Rattle.std.proofs.Common.{sym, ◌∙◌}
use Rattle.trace_files.proofs.Ranges.{crosses_no, rises}
use Rattle.trace_files.proofs.move_table.place_for.Goals as goal

pub returns-then-begins_behind-clause-apart : goal.returns-then-begins_behind-clause-apart
returns-then-begins_behind-clause-apart c =
    crosses_no c.args.rows.now c.args.row.now c.begun_at-place.result c.requires.rising
    c.requires.some c.begun_at-place.ensures.bound c.begun_at-place.ensures.below
    c.begun_at-place.ensures.above (sym c.ends_before.ensures ∙ c.if-ends_before.true)
    (sym c.begins_behind.ensures ∙ c.if-begins_behind.true)

pub returns-then-begins_behind-clause-rising : goal.returns-then-begins_behind-clause-rising
returns-then-begins_behind-clause-rising c =
    rises c.args.rows.now c.args.row.now c.begun_at-place.result c.requires.rising
    c.requires.some c.begun_at-place.ensures.bound c.begun_at-place.ensures.below
    c.begun_at-place.ensures.above (sym c.ends_before.ensures ∙ c.if-ends_before.true)
    (sym c.begins_behind.ensures ∙ c.if-begins_behind.true)
