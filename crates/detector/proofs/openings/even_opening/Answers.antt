use Rattle.std.proofs.Common.{◌-◌, ℕ, sym, ap, ◌∙◌, subst}
use Rattle.std.proofs.lemmas.Bool.{ne_eqb}
use Rattle.sharing_rules.specs.declared.line_kind.LineKind.TheVariants.{Doubled}
use Rattle.detector.specs.Index.{IsShaped}
use Rattle.detector.specs.Openings.{doubled_opens}
use Rattle.detector.proofs.OpenLaws.{doubled-is, even-even, even-odd, odd-below}
use Rattle.detector.proofs.openings.even_opening.Goals as goal
use Rattle.sharing_rules.specs.Lines.{native_grid}

pub returns-then-line-eq1-clause-value : goal.returns-then-line-eq1-clause-value
returns-then-line-eq1-clause-value g c =
    c.doubled_opening.ensures.value c.args.line c.if-line-eq1.true c.requires.upper.own
    ∙ doubled-is c.args.size c.args.line c.args.tracks.now _ _ c.requires.upper
    ∙ ap (λ k. doubled_opens (native_grid c.args.size) k c.args.tracks.now)
    (sym (even-odd c.args.line c.if-line-eq1.true))

pub returns-then-line-eq1-clause-shaped : goal.returns-then-line-eq1-clause-shaped
returns-then-line-eq1-clause-shaped g c = λ r e.
    subst (λ (k : ℕ). IsShaped (native_grid c.args.size) k Doubled r)
    (sym (even-odd c.args.line c.if-line-eq1.true))
    (c.doubled_opening.ensures.shaped c.args.line c.if-line-eq1.true c.requires.upper.own r e)

pub returns-else-line-eq1-clause-value : goal.returns-else-line-eq1-clause-value
returns-else-line-eq1-clause-value g c =
    let even = ne_eqb _ _ c.if-line-eq1.false in
    c.doubled_opening-else-line-eq1.ensures.value (c.args.line - 1)
    (odd-below c.args.line c.requires.some even) c.requires.lower.own
    ∙ doubled-is c.args.size (c.args.line - 1) c.args.tracks.now _ _ c.requires.lower
    ∙ ap (λ k. doubled_opens (native_grid c.args.size) k c.args.tracks.now)
    (sym (even-even c.args.line even))

pub returns-else-line-eq1-clause-shaped : goal.returns-else-line-eq1-clause-shaped
returns-else-line-eq1-clause-shaped g c = λ r e.
    let even = ne_eqb _ _ c.if-line-eq1.false in
    subst (λ (k : ℕ). IsShaped (native_grid c.args.size) k Doubled r)
    (sym (even-even c.args.line even))
    (c.doubled_opening-else-line-eq1.ensures.shaped (c.args.line - 1)
    (odd-below c.args.line c.requires.some even) c.requires.lower.own r e)
