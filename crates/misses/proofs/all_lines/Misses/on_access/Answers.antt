use Rattle.std.proofs.Common.{◌+◌, ◌∙◌, ap, sym, subst, ℕ}
use Rattle.base.specs.Lines.{line_number}
use Rattle.sharing_rules.specs.Lines.{Line}
use Rattle.misses.specs.Fits.{AreFit, IsWithin}
use Rattle.misses.specs.MissCounts.{StandsFor, note_in}
use Rattle.misses.specs.Laws.Fits.{counts-within, line_small, note_in-fit}
use Rattle.misses.specs.Laws.KeptOf.{stands-noted}
use Rattle.misses.proofs.all_lines.Misses.on_access.Goals as goal

pub invariant_of-self-2 : goal.invariant_of-self-2
invariant_of-self-2 c =
    let s = c.self.inside in
    let line : Line = record {
      size = s.layout.size;
      offset = s.layout.offset;
      number = c.number_of-number.result;
    } in
    let here = note_in-fit s.position s.lines.entries line c.args.access.now c.self.invariant.0
    (line_small c.number_of-number.result c.number_of-number.ensures.small) in
    let there = subst
    (λ (l : Line). AreFit s.layout.size (s.position + 1)
    (note_in s.lines.entries l s.position c.args.access.now))
    (sym c.numbered-line.ensures) here in (
      subst (AreFit s.layout.size (s.position + 1)) (sym c.in-Ok.ensures.noted) there,
      subst (IsWithin (s.position + 1)) (sym c.after-self-inside.ensures)
          (counts-within s.position s.totals c.in-Ok.cost c.self.invariant.1),
      c.self.invariant.2,
    )

pub returns-clause-stands : goal.returns-clause-stands
returns-clause-stands c =
    let s = c.self.inside in
    λ t stands.
    stands-noted t s.layout s.position s.totals c.after-self-inside.result s.lines.entries
    c.note_in.new.lines.entries c.numbered-line.result c.args.access.now c.in-Ok.cost
    c.self.invariant.2
    (c.numbered-line.ensures ∙ ap
    (λ (n : ℕ). record { size = s.layout.size; offset = s.layout.offset; number = n })
    (c.number_of-number.ensures.value
    ∙ ap (line_number s.layout.size s.layout.offset) c.addr.ensures))
    c.in-Ok.ensures.stated c.after-self-inside.ensures c.in-Ok.ensures.noted
    (subst (StandsFor t) (sym c.self.view_is) stands)
