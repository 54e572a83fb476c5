use Rattle.std.proofs.Common.{◌≡◌, ◌∙◌, ◌+◌, ◌<◌, ◌^◌, ◌∷◌, ◌++◌, [], arith, inl, inr, rules, subst}
use Rattle.std.proofs.Common.{sym, true}
use Rattle.std.proofs.lemmas.Bool.{cases_Bool}
use Rattle.invalidations.specs.Inside.{kept_in}
use Rattle.invalidations.specs.LineInvalidations.{LineInvalidations, note_visit}
use Rattle.invalidations.specs.Laws.Bounds.{can-note, count-few}
use Rattle.invalidations.specs.Laws.KeptOf.{visited}
use Rattle.invalidations.specs.Invalidations.{is_in}
use Rattle.invalidations.proofs.explainer.Explainer.visit.Goals as goal

pub note-requires : goal.note-requires
note-requires c =
    can-note c.self.invariant.0 (kept_in c.self.inside) c.args.sited c.invalidation-invalidation.result
    c.self.invariant.1
    (subst (λ (k : LineInvalidations). k.position < 2 ^ 40) (sym c.self.view_is) c.requires.early)

pub overflow_add-self : goal.overflow_add-self
overflow_add-self c =
    let few = count-few c.self.invariant.0 (kept_in c.self.inside) c.self.invariant.1 in
    let early = subst (λ (k : LineInvalidations). k.position < 2 ^ 40) (sym c.self.view_is) c.requires.early in
    elim (cases_Bool c.is_some.result) [
      | inl e ↦ let one = rw e at c.from.ensures in omega (arith, few, early, one)
      | inr e ↦ let none = rw e at c.from.ensures in omega (arith, few, early, none)
    ]

pub invariant_of-self-2 : goal.invariant_of-self-2
invariant_of-self-2 c =
    let now : LineInvalidations = record {
      line = c.self.inside.line;
      start = c.self.inside.start;
      position = c.self.inside.position + 1;
      count = c.self.inside.count + c.from.result;
      two = c.note-2.new.self;
      sites = c.note.new.self.sites.entries;
      pairs = c.note.new.self.pairs.entries;
      harts = c.note.new.self.harts.entries;
    } in
    let noted : now ≡ note_visit (kept_in c.self.inside) c.args.sited = search rules in (
      c.self.invariant.0 ++ c.args.sited ∷ [],
      noted
          ∙ visited c.self.invariant.0 (kept_in c.self.inside) c.args.sited c.self.invariant.1
          (subst (λ (k : LineInvalidations). is_in k.line c.args.sited ≡ true) (sym c.self.view_is)
          c.requires.within),
    )
