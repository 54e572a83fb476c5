-- Without an access each window is blank.
use Rattle.std.proofs.Common.{◌∙◌, ap, refl, sym}
use Rattle.sharing_rules.specs.Lines.{native_line}
use Rattle.layout_sweep.specs.Laws.Windows.{window-blank}
use Rattle.layout_sweep.specs.Pages.{window_at}
use Rattle.layout_sweep.proofs.line_counts.LineCounts.new.Goals as goal

pub returns-clause-counts : goal.returns-clause-counts
returns-clause-counts c = record {
  windows = λ k. ap (λ ps. window_at ps k) c.new.ensures.items
      ∙ sym (window-blank (native_line c.args.size k));
  total = refl;
}
