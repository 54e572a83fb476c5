use Rattle.std.proofs.Common.{◌+◌, ap, arith, refl, subst, sym, ◌∙◌}
use Rattle.finite_cache.specs.Counts.{one_if}
use Rattle.finite_cache.specs.CacheState.{CacheState, StandsFor}
use Rattle.finite_cache.specs.KeptParts.{parts_of}
use Rattle.finite_cache.specs.Laws.Fits.{fit-step}
use Rattle.finite_cache.specs.Laws.Shapes.{some-sets}
use Rattle.finite_cache.specs.Laws.Stands.{stands-noted}
use Rattle.finite_cache.proofs.caches.Caches.on_access.Goals as goal

pub invariant_of-self-2 : goal.invariant_of-self-2
invariant_of-self-2 c =
    let s = c.self.inside in (
      fit-step s.shape s.position c.args.access.now (parts_of s.sets s.lines s.rows)
          (parts_of c.step.new.sets c.step.new.lines c.step.new.rows) c.self.invariant.0
          c.in-Ok.ensures.stepped c.in-Ok.ensures.kept c.in-Ok.ensures.small,
      omega (arith, c.one_if.ensures.small, c.self.invariant.1),
    )

pub returns-clause-stands : goal.returns-clause-stands
returns-clause-stands c =
    let s = c.self.inside in
    let old : CacheState = record {
      shape = s.shape;
      position = s.position;
      evicted = s.evicted;
      parts = parts_of s.sets s.lines s.rows;
    } in
    let new : CacheState = record {
      shape = s.shape;
      position = s.position + 1;
      evicted = s.evicted + c.one_if.result;
      parts = parts_of c.step.new.sets c.step.new.lines c.step.new.rows;
    } in
    λ t stands. stands-noted t c.args.access.now old new
    (some-sets s.shape c.size-size.ensures.allowed) c.self.invariant.0.noted (record {
      shape = refl;
      position = refl;
      evicted = ap (λ n. s.evicted + n)
          (c.one_if.ensures.value ∙ ap one_if c.in-Ok.ensures.stated);
      parts = c.in-Ok.ensures.stepped;
    }) (subst (StandsFor t) (sym c.self.view_is) stands)
