use Rattle.std.proofs.Common.{◌≡◌, ◌-◌, Option, ◌∙◌}
use Rattle.base.specs.declared.layout.Range.{Range}
use Rattle.detector.specs.declared.openings.Openings.{Openings}
use Rattle.detector.proofs.OpenLaws.{shifted-is}
use Rattle.detector.proofs.openings.search.Goals as goal

three : (a b c d e f : Option Range) → a ≡ d → b ≡ e → c ≡ f
    → ◌≡◌ {A = Openings} (record { below = a; here = b; doubled = c })
    (record { below = d; here = e; doubled = f })
three a b c d e f p q r = λ i. record { below = p i; here = q i; doubled = r i }

pub returns-clause-value : goal.returns-clause-value
returns-clause-value g c =
    three _ _ _ _ _ _
    (c.shifted_opening-below.ensures.value (c.args.line - 1) c.requires.lower.own
    ∙ shifted-is c.args.size (c.args.line - 1) c.args.tracks.now _ _ c.requires.lower)
    (c.shifted_opening-here.ensures.value c.args.line c.requires.upper.own
    ∙ shifted-is c.args.size c.args.line c.args.tracks.now _ _ c.requires.upper)
    c.even_opening-doubled.ensures.value

pub returns-clause-shaped : goal.returns-clause-shaped
returns-clause-shaped g c = record {
  below = c.shifted_opening-below.ensures.shaped (c.args.line - 1) c.requires.lower.own;
  here = c.shifted_opening-here.ensures.shaped c.args.line c.requires.upper.own;
  doubled = c.even_opening-doubled.ensures.shaped;
}
