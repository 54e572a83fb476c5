use Rattle.std.proofs.Common.{◌≡◌, ◌<◌, ◌^◌, ◌∷◌, ◌++◌, [], ap, arith, inl, inr, subst, sym}
use Rattle.std.proofs.Common.{◌∙◌}
use Rattle.std.proofs.lemmas.Bool.{cases_Bool}
use Rattle.std.specs.Prelude.{if◌then◌else◌}
use Rattle.base.specs.Lines.{line_number}
use Rattle.invalidations.specs.BlameFits.{parts_of}
use Rattle.invalidations.specs.BlameInside.{blamed_in}
use Rattle.invalidations.specs.BlameKept.{Blamed, StandsFor}
use Rattle.invalidations.specs.Laws.BlameFits.{few-harts, few-lines, few-pairs, total-few}
use Rattle.invalidations.specs.Laws.BlameKept.{noted-by, stands-push}
use Rattle.invalidations.specs.declared.sited.Sited.{Sited}
use Rattle.invalidations.proofs.blame.Blame.on_access.Goals as goal

pub note-requires-clause-few : goal.note-requires-clause-few
note-requires-clause-few c =
    few-lines c.self.invariant.0 (blamed_in c.self.inside) c.self.invariant.1
    (subst (λ (k : Blamed). k.position < 2 ^ 40) (sym c.self.view_is) c.requires)

pub note-requires-clause-few_pairs : goal.note-requires-clause-few_pairs
note-requires-clause-few_pairs c =
    few-pairs c.self.invariant.0 (blamed_in c.self.inside) c.self.invariant.1
    (subst (λ (k : Blamed). k.position < 2 ^ 40) (sym c.self.view_is) c.requires)

pub note-requires-clause-few_harts : goal.note-requires-clause-few_harts
note-requires-clause-few_harts c =
    few-harts c.self.invariant.0 (blamed_in c.self.inside) c.self.invariant.1
    (subst (λ (k : Blamed). k.position < 2 ^ 40) (sym c.self.view_is) c.requires)

pub overflow_add-self : goal.overflow_add-self
overflow_add-self c =
    let few = total-few c.self.invariant.0 (blamed_in c.self.inside) c.self.invariant.1 in
    let early = subst (λ (k : Blamed). k.position < 2 ^ 40) (sym c.self.view_is) c.requires in
    elim (cases_Bool c.in-Ok.taken) [
      | inl e ↦ let one = rw e at c.from.ensures in omega (arith, few, early, one)
      | inr e ↦ let none = rw e at c.from.ensures in omega (arith, few, early, none)
    ]

pub invariant_of-self-2 : goal.invariant_of-self-2
invariant_of-self-2 c =
    let s : Sited = record { access = c.args.access.now; pc = c.args.pc } in
    let k = blamed_in c.self.inside in
    let own = c.number_of-line.ensures.value
    ∙ ap (line_number c.self.inside.layout.size c.self.inside.layout.offset) c.addr.ensures in
    let counted : c.from.result ≡ (if c.in-Ok.taken then 1 else 0) =
    elim (cases_Bool c.in-Ok.taken) [
      | inl e ↦ rw e (rw e at c.from.ensures)
      | inr e ↦ rw e (rw e at c.from.ensures)
    ] in
    let noted = noted-by k s c.number_of-line.result c.from.result c.in-Ok.taken
    (parts_of c.note.new.self) own c.in-Ok.ensures.stated counted
    c.in-Ok.ensures.noted in (
      c.self.invariant.0 ++ s ∷ [],
      subst (StandsFor (c.self.invariant.0 ++ s ∷ [])) (sym noted)
          (stands-push c.self.invariant.0 k s c.self.invariant.1),
    )

pub returns-clause-stands : goal.returns-clause-stands
returns-clause-stands c = λ u stands.
    let s : Sited = record { access = c.args.access.now; pc = c.args.pc } in
    let k = blamed_in c.self.inside in
    let own = c.number_of-line.ensures.value
    ∙ ap (line_number c.self.inside.layout.size c.self.inside.layout.offset) c.addr.ensures in
    let counted : c.from.result ≡ (if c.in-Ok.taken then 1 else 0) =
    elim (cases_Bool c.in-Ok.taken) [
      | inl e ↦ rw e (rw e at c.from.ensures)
      | inr e ↦ rw e (rw e at c.from.ensures)
    ] in
    let noted = noted-by k s c.number_of-line.result c.from.result c.in-Ok.taken
    (parts_of c.note.new.self) own c.in-Ok.ensures.stated counted
    c.in-Ok.ensures.noted in
    subst (StandsFor (u ++ s ∷ [])) (sym noted)
    (stands-push u k s (subst (StandsFor u) (sym c.self.view_is) stands))
