use Rattle.std.proofs.Common.{◌∙◌, sym, ap, refl, subst, length, []}
use Rattle.layout_sweep.specs.Counts.{AreBelow}
use Rattle.layout_sweep.specs.Laws.Standing.{blank-below, length-sweep_of}
use Rattle.layout_sweep.specs.Laws.Windows.{window-blank}
use Rattle.layout_sweep.specs.Pages.{window_at}
use Rattle.layout_sweep.specs.Windows.{window_line}
use Rattle.layout_sweep.proofs.sweep.Sweep.new.Goals as goal

pub invariant_of-result : goal.invariant_of-result
invariant_of-result c = record {
  sized = c.requires;
  each = ap length c.in-Ok.ensures ∙ length-sweep_of c.args.size [];
  few = subst (AreBelow 1) (sym c.in-Ok.ensures) (blank-below c.args.size);
}

pub returns-in-Ok-clause-stands : goal.returns-in-Ok-clause-stands
returns-in-Ok-clause-stands c = record {
  position = refl;
  windows = λ q. ap (λ ps. window_at ps q) c.new.ensures.items
      ∙ sym (window-blank (window_line c.args.size q));
  counts = c.in-Ok.ensures;
}
