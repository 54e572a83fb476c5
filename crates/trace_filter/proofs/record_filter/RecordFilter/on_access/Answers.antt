use Rattle.std.proofs.Common.{ℕ, ◌∙◌, ◌∷◌, ◌++◌, [], ap, length, sym}
use Rattle.sharing_rules.specs.Filtered.{filtered}
use Rattle.trace_format.specs.Rules.{touches_in}
use Rattle.trace_filter.proofs.FilterLaws.{kept_none, kept_one}
use Rattle.trace_filter.proofs.Passing.{touched}
use Rattle.trace_filter.proofs.record_filter.RecordFilter.on_access.Goals as goal

pub returns-in-Ok-true-clause-filtered : goal.returns-in-Ok-true-clause-filtered
returns-in-Ok-true-clause-filtered c = λ items pc had.
    let f = c.args.self.now in
    let a = c.args.access in
    let t = touches_in items in
    let e = c.in-Ok-true.ensures in
    touched items a pc _ (e.stands t had.stands)
    (kept_one f.filter.near f.kept t a c.in-Ok-true.field-0 c.in-Ok-true.field-0-test
    (e.kept t had.stands) had.kept
    ∙ ap (λ (k : ℕ). length (filtered k (t ++ a ∷ []))) (sym c.on_access.ensures.near))

pub returns-in-Ok-false-clause-filtered : goal.returns-in-Ok-false-clause-filtered
returns-in-Ok-false-clause-filtered c = λ items pc had.
    let f = c.args.self.now in
    let a = c.args.access in
    let t = touches_in items in
    let e = c.in-Ok-false.ensures in
    touched items a pc _ (e.stands t had.stands)
    (kept_none f.filter.near f.kept t a c.in-Ok-false.field-0 c.in-Ok-false.field-0-test
    (e.kept t had.stands) had.kept
    ∙ ap (λ (k : ℕ). length (filtered k (t ++ a ∷ []))) (sym c.on_access.ensures.near))

pub returns-in-Err-clause-still : goal.returns-in-Err-clause-still
returns-in-Err-clause-still c = λ items had. record {
  stands = c.in-Err.ensures.still (touches_in items) had.stands;
  kept = had.kept
      ∙ ap (λ (k : ℕ). length (filtered k (touches_in items))) (sym c.on_access.ensures.near);
}
