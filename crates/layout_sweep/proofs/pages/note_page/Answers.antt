-- One place more: its window and its shift are noted, and the others stay.
use Rattle.std.proofs.Common.{◌≡◌, ℕ, ◌+◌, ◌∙◌, sym, ap, subst, inl, inr, arith, length}
use Rattle.std.proofs.Common.{slice_get}
use Rattle.std.proofs.lemmas.Bool.{cases_eq, cases_lt}
use Rattle.std.proofs.lemmas.List.{length-set}
use Rattle.std.proofs.lemmas.Option.{slice_get_past}
use Rattle.std.specs.Prelude.{option_map, slice_set}
use Rattle.sharing_rules.specs.Laws.Lists.{get-set_other}
use Rattle.layout_sweep.specs.Counts.{swept_after}
use Rattle.layout_sweep.specs.Pages.{window_in}
use Rattle.layout_sweep.specs.Windows.{window_after}
use Rattle.layout_sweep.proofs.PageLaws.{counted_here}
use Rattle.layout_sweep.proofs.pages.note_page.Goals as goal

pub loop-i-preserved : goal.loop-i-preserved
loop-i-preserved g c =
    let i : ℕ = c.loop-i.i in
    let p : ℕ = c.args.place in
    let old = c.args.page.now.items in
    let new = c.note_place.new.page.items in
    let a = c.args.access in
    let before = c.loop-i.invariant.outside (p + i) (inr (omega arith)) in
    record {
      inside = λ j less. elim (cases_eq j i) [
        | inl same ↦
            subst (λ (k : ℕ). window_in new (p + k) ≡ window_after (window_in old (p + k)) a)
            (sym same) (c.note_place.ensures.here ∙ ap (λ w. window_after w a) before)
        | inr other ↦
            c.note_place.ensures.others (p + j) (λ e. other (omega (arith, e)))
            ∙ c.loop-i.invariant.inside j (omega (arith, less, other))
      ];
      outside = λ q away.
          c.note_place.ensures.others q (λ e. elim away [
            | inl low ↦ absurd (omega (arith, e, low))
            | inr high ↦ absurd (omega (arith, e, high))
          ])
          ∙ c.loop-i.invariant.outside q (elim away [
            | inl low ↦ inl low
            | inr high ↦ inr (omega (arith, high))
          ]);
      counts = λ j less. elim (cases_eq j i) [
        | inl same ↦
            subst (λ (k : ℕ). slice_get (slice_set c.loop-i.counts i c.note_place.new.counts) k
            ≡ option_map (λ x. swept_after x (window_in old (p + k)) a)
            (slice_get c.args.counts.now k)) (sym same)
            (counted_here c.loop-i.counts c.args.counts.now i c.note_place.new.counts
            (record { shift = 0; total = 0; lines = 0 }) (window_in c.loop-i.page.items (p + i))
            (window_in old (p + i)) a
            (omega (arith, c.loop-i-test.true, c.loop-i.invariant.long))
            (c.loop-i.invariant.later i (omega arith)) c.note_place.ensures.counts before)
        | inr other ↦ get-set_other c.loop-i.counts i j c.note_place.new.counts other
            ∙ c.loop-i.invariant.counts j (omega (arith, less, other))
      ];
      later = λ j behind. get-set_other c.loop-i.counts i j c.note_place.new.counts
          (λ e. absurd (omega (arith, e, behind)))
          ∙ c.loop-i.invariant.later j (omega (arith, behind));
      long = length-set c.loop-i.counts i c.note_place.new.counts ∙ c.loop-i.invariant.long;
      page = c.note_place.ensures.long ∙ c.loop-i.invariant.page;
      cost = omega (arith, c.tick.ensures, c.loop-i.invariant.cost);
    }

pub returns-clause-counts : goal.returns-clause-counts
returns-clause-counts g c = λ i.
    elim (cases_lt i (length c.args.counts.now)) [
      | inl within ↦ c.loop-i.invariant.counts i
          (omega (arith, within, c.loop-i-test.false, c.loop-i.invariant.long))
      | inr past ↦
          slice_get_past c.loop-i.counts i (omega (arith, past, c.loop-i.invariant.long))
          ∙ sym (ap (option_map (λ x. swept_after x
          (window_in c.args.page.now.items (c.args.place + i)) c.args.access))
          (slice_get_past c.args.counts.now i past))
    ]
