use Rattle.std.proofs.Common.{◌/◌, ◌∙◌, sym, ap, slice_get}
use Rattle.layout_sweep.specs.Laws.Lines.{size-whole}
use Rattle.layout_sweep.specs.Laws.Standing.{shift-missing, shift-there}
use Rattle.layout_sweep.proofs.sweep.Sweep.at.Goals as goal

pub returns-then-has_shift : goal.returns-then-has_shift
returns-then-has_shift c = λ t stands.
    let s = c.args.self.now in
    c.count_at.ensures
    ∙ ap (λ xs. slice_get xs (c.args.shift / 4)) (c.as_slice.ensures.value ∙ stands.counts)
    ∙ shift-there s.size c.args.shift t (size-whole s.size s.sized)
    (sym c.has_shift.ensures ∙ c.if-has_shift.true)

pub returns-else-has_shift : goal.returns-else-has_shift
returns-else-has_shift c = λ t stands.
    shift-missing c.args.self.now.size c.args.shift t (sym c.has_shift.ensures ∙ c.if-has_shift.false)
