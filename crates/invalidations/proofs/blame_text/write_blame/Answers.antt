use Rattle.std.proofs.Common.{◌≡◌, ◌∙◌, ℕ, IfOk, List, ap, subst}
use Rattle.base.specs.Lines.{Grid}
use Rattle.invalidations.specs.BlameKept.{rows_in}
use Rattle.invalidations.specs.BlameRecords.{sited_in}
use Rattle.invalidations.specs.BlameRows.{heads_in_order}
use Rattle.invalidations.specs.Laws.BlameRecords.{stands-seen, text-seen}
use Rattle.invalidations.specs.Laws.BlameText.{text-gathered, text-stands}
use Rattle.invalidations.proofs.blame_text.write_blame.Goals as goal

pub returns-clause-kept : goal.returns-clause-kept
returns-clause-kept c =
    subst (λ (x : List ℕ). IfOk c.text_of_rows.result (λ text. text.items ≡ x))
    (text-gathered c.args.blame.now c.args.whole c.deref.result.now c.in_ok-pairs.pairs.entries
    c.in_ok-harts.harts.entries
    (c.deref.ensures.value ∙ c.in_ok-heads.ensures
    ∙ ap (λ (g : Grid). heads_in_order g c.lines.result.now.entries) c.layout.ensures
    ∙ ap (heads_in_order c.args.blame.now.grid) c.lines.ensures)
    (λ r. c.in_ok-pairs.ensures r ∙ ap (rows_in r) c.pairs.ensures)
    (λ r. c.in_ok-harts.ensures r ∙ ap (rows_in r) c.harts.ensures))
    c.text_of_rows.ensures

pub returns-clause-stands : goal.returns-clause-stands
returns-clause-stands c = λ u stands.
    subst (λ (x : List ℕ). IfOk c.text_of_rows.result (λ text. text.items ≡ x))
    (text-stands c.args.blame.now c.args.whole u stands) (returns-clause-kept c)

pub returns-clause-records : goal.returns-clause-records
returns-clause-records c = λ g items seen.
    subst (λ (x : List ℕ). IfOk c.text_of_rows.result (λ text. text.items ≡ x))
    (text-seen g c.args.whole c.args.blame.now items seen)
    (returns-clause-stands c (sited_in items) (stands-seen g c.args.blame.now items seen))
