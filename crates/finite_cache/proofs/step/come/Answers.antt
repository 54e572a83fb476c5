use Rattle.std.proofs.Common.{sym, ◌∙◌}
use Rattle.finite_cache.specs.CacheState.{lists_of}
use Rattle.finite_cache.specs.Laws.Fits.{gone-noted}
use Rattle.finite_cache.specs.Laws.Shapes.{some-sets, some-ways}
use Rattle.finite_cache.proofs.step.come.Goals as goal

pub note_evicted-requires-clause-there : goal.note_evicted-requires-clause-there
note_evicted-requires-clause-there c = λ q gone.
    gone-noted c.args.shape (lists_of c.args.shape c.args.sets.now.entries)
    c.args.lines.now.entries c.use_line.new.lines.entries c.args.line c.args.hart q
    (some-ways c.args.shape c.requires.shaped) (some-sets c.args.shape c.requires.shaped)
    c.requires.noted c.in-Ok.ensures.arrived (sym c.in-Ok.ensures.left ∙ gone)
