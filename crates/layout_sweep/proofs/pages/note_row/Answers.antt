-- One place more: its window and its shift are noted, and the others stay.
use Rattle.std.proofs.Common.{◌≡◌, ℕ, ◌+◌, ◌<◌, ◌∙◌, sym, ap, subst, inl, inr, arith, length}
use Rattle.std.proofs.Common.{slice_get}
use Rattle.std.proofs.lemmas.Bool.{cases_eq}
use Rattle.std.proofs.lemmas.List.{length-set}
use Rattle.std.specs.Prelude.{option_map, slice_set}
use Rattle.sharing_rules.specs.Laws.Lists.{get-set_other}
use Rattle.layout_sweep.specs.Counts.{swept_after}
use Rattle.layout_sweep.specs.Pages.{IsTurned, window_in}
use Rattle.layout_sweep.specs.Windows.{window_after}
use Rattle.layout_sweep.proofs.PageLaws.{counted_here}
use Rattle.layout_sweep.proofs.RowLaws.{turned-apart, turned-next, turned-same}
use Rattle.layout_sweep.proofs.pages.note_row.Goals as goal

pub loop-i-preserved : goal.loop-i-preserved
loop-i-preserved g c =
    let i : ℕ = c.loop-i.i in
    let p : ℕ = c.args.place in
    let f : ℕ = c.args.first in
    let s : ℕ = c.loop-i.shift in
    let m : ℕ = length c.args.counts.now in
    let old = c.args.windows.now in
    let new = c.note_there.new.windows in
    let a = c.args.access in
    let here = c.loop-i.invariant.turned in
    let long : length c.loop-i.counts ≡ m = c.loop-i.invariant.long in
    let less : i < m = omega (arith, c.loop-i-test.true, long) in
    let before = c.loop-i.invariant.outside (p + i) (inr (omega arith)) in
    record {
      inside = λ k within. elim (cases_eq k i) [
        | inl same ↦
            subst (λ (j : ℕ). window_in new (p + j) ≡ window_after (window_in old (p + j)) a)
            (sym same) (c.note_there.ensures.here ∙ ap (λ w. window_after w a) before)
        | inr other ↦
            c.note_there.ensures.others (p + k) (λ e. other (omega (arith, e)))
            ∙ c.loop-i.invariant.inside k (omega (arith, within, other))
      ];
      outside = λ q away.
          c.note_there.ensures.others q (λ e. elim away [
            | inl low ↦ absurd (omega (arith, e, low))
            | inr high ↦ absurd (omega (arith, e, high))
          ])
          ∙ c.loop-i.invariant.outside q (elim away [
            | inl low ↦ inl low
            | inr high ↦ inr (omega (arith, high))
          ]);
      turned = subst (λ (j : ℕ). IsTurned m f (i + 1) j) (sym c.shift_behind-shift.ensures)
          (turned-next m f i s c.requires.first less here);
      counts = λ k j within at. elim (cases_eq k i) [
        | inl same ↦
            subst (λ (h : ℕ). slice_get (slice_set c.loop-i.counts s c.note_there.new.counts) j
            ≡ option_map (λ x. swept_after x (window_in old (p + h)) a)
            (slice_get c.args.counts.now j)) (sym same)
            (subst (λ (h : ℕ). slice_get (slice_set c.loop-i.counts s c.note_there.new.counts) h
            ≡ option_map (λ x. swept_after x (window_in old (p + i)) a)
            (slice_get c.args.counts.now h))
            (turned-same m f i s j here (subst (λ (h : ℕ). IsTurned m f h j) same at))
            (counted_here c.loop-i.counts c.args.counts.now s c.note_there.new.counts
            (record { shift = 0; total = 0; lines = 0 }) (window_in c.loop-i.windows (p + i))
            (window_in old (p + i)) a
            (omega (arith, here.low, long))
            (c.loop-i.invariant.later i s (omega arith) less here) c.note_there.ensures.counts
            before))
        | inr other ↦ get-set_other c.loop-i.counts s j c.note_there.new.counts
            (λ e. turned-apart m f k i j s (omega (arith, within, other)) less at here e)
            ∙ c.loop-i.invariant.counts k j (omega (arith, within, other)) at
      ];
      later = λ k j ahead within at. get-set_other c.loop-i.counts s j c.note_there.new.counts
          (λ e. turned-apart m f i k s j (omega (arith, ahead)) within here at (sym e))
          ∙ c.loop-i.invariant.later k j (omega (arith, ahead)) within at;
      long = length-set c.loop-i.counts s c.note_there.new.counts ∙ c.loop-i.invariant.long;
      size = c.note_there.ensures.long ∙ c.loop-i.invariant.size;
      cost = omega (arith, c.tick.ensures, c.loop-i.invariant.cost);
    }

pub returns-clause-counts : goal.returns-clause-counts
returns-clause-counts g c = λ i j less at.
    c.loop-i.invariant.counts i j
    (omega (arith, less, c.loop-i-test.false, c.loop-i.invariant.long)) at
