use Rattle.std.proofs.Common.{◌≡◌, ◌∷◌, ◌++◌, [], false, subst, sym}
use Rattle.invalidations.specs.Inside.{kept_in}
use Rattle.invalidations.specs.LineInvalidations.{LineInvalidations}
use Rattle.invalidations.specs.Laws.KeptOf.{passed}
use Rattle.invalidations.specs.Invalidations.{is_in}
use Rattle.invalidations.proofs.explainer.Explainer.pass.Goals as goal

pub invariant_of-self : goal.invariant_of-self
invariant_of-self c = (
  c.self.invariant.0 ++ c.args.sited ∷ [],
  passed c.self.invariant.0 (kept_in c.self.inside) c.args.sited c.self.invariant.1
      (subst (λ (k : LineInvalidations). is_in k.line c.args.sited ≡ false) (sym c.self.view_is)
      c.requires.elsewhere),
)
