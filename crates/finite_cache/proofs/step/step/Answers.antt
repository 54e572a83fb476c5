use Rattle.std.proofs.Common.{ap, sym, ◌∙◌}
use Rattle.base.specs.Touch.{is_write}
use Rattle.finite_cache.specs.Bounded.{line_in}
use Rattle.finite_cache.specs.KeptParts.{parts_of}
use Rattle.finite_cache.specs.Laws.Shapes.{some-sets}
use Rattle.finite_cache.specs.Laws.Steps.{read-on}
use Rattle.finite_cache.proofs.step.step.Goals as goal

pub returns-in-Read-clause-stepped : goal.returns-in-Read-clause-stepped
returns-in-Read-clause-stepped c =
    read-on c.come.result c.args.shape
    (parts_of c.args.sets.now c.args.lines.now c.args.rows.now) c.args.access.now
    c.line_of.result c.hart.result c.come.new.sets.entries c.come.new.lines.entries
    c.args.position (some-sets c.args.shape c.requires.shaped)
    (c.line_of.ensures.value ∙ ap (line_in c.args.shape) c.addr.ensures) c.hart.ensures.value
    (ap is_write (sym c.kind.ensures ∙ c.in-Read.is)) c.come.ensures.used c.come.ensures.harts
    c.come.ensures.evicted
