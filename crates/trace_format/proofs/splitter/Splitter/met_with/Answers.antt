use Rattle.std.proofs.Common.{◌≡◌, ℕ, ◌+◌, [], ◌∷◌, ◌++◌, length, sym, ap, subst, ◌∙◌, arith}
use Rattle.std.specs.Prelude.{min}
use Rattle.trace_format.specs.declared.record.TraceRecord.{TraceRecord}
use Rattle.trace_format.specs.Rules.{touches_in}
use Rattle.trace_format.specs.Splits.{Split}
use Rattle.trace_format.proofs.Cuts.{met_more, met_same, quiet_unless}
use Rattle.trace_format.proofs.splitter.Splitter.met_with.Goals as goal

pub returns-in-Touch-clause-met : goal.returns-in-Touch-clause-met
returns-in-Touch-clause-met c = λ seen has.
    let s = c.args.self.now in
    let met : c.self.inside.met ≡ s.met = ap (λ (x : Split). x.met) c.self.view_is in
    let cut : c.self.inside.cut ≡ s.cut = ap (λ (x : Split). x.cut) c.self.view_is in
    let more : min s.met s.cut + 1 ≡ min (length (touches_in (seen ++ c.args.item.now ∷ [])))
    (s.cut + 1) =
    subst (λ (item : TraceRecord). min s.met s.cut + 1
    ≡ min (length (touches_in (seen ++ item ∷ []))) (s.cut + 1)) (sym c.in-Touch.is)
    (met_more seen c.in-Touch.field-0 c.in-Touch.field-1 s.cut s.met has.met) in
    ap (λ (n : ℕ). n + 1) (c.min.ensures ∙ (λ i. min (met i) (cut i))) ∙ more

pub returns-in_default : goal.returns-in_default
returns-in_default c =
    let s = c.args.self.now in
    let met : c.self.inside.met ≡ s.met = ap (λ (x : Split). x.met) c.self.view_is in
    let cut : c.self.inside.cut ≡ s.cut = ap (λ (x : Split). x.cut) c.self.view_is in
    record {
      met = λ seen has. met ∙ met_same seen c.args.item.now s.cut s.met
          (quiet_unless c.args.item.now c.in_default.not-Touch) has.met;
      low = omega (arith, c.self.invariant.2);
    }
