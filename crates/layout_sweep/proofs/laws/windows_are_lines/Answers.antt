use Rattle.std.proofs.Common.{refl, ap, pos, ◌-ℤ◌}
use Rattle.layout_sweep.specs.Laws.Lines.{size-whole, window-begins, window-held, window-numbered}
use Rattle.layout_sweep.proofs.laws.windows_are_lines.Goals as goal

pub returns-clause-range : goal.returns-clause-range
returns-clause-range c = λ n q sized.
    (refl, ap (λ z. pos z -ℤ pos n) (window-begins n q (size-whole n sized)))

pub returns-clause-line : goal.returns-clause-line
returns-clause-line c = λ n k i sized less. window-numbered n k i less

pub returns-clause-holds : goal.returns-clause-holds
returns-clause-holds c = λ n q a sized. window-held n q a (size-whole n sized)
