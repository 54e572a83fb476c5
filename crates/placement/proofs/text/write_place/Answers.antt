use Rattle.std.proofs.Common.{◌≡◌, ◌∙◌, List, ℕ, ap, subst}
use Rattle.std.specs.Prelude.{IfOk}
use Rattle.base.specs.TextLines.{text_of}
use Rattle.placement.specs.Laws.Texts.{text-of_list, text-of_records}
use Rattle.placement.specs.Plans.{Planned}
use Rattle.placement.specs.Texts.{place_lines}
use Rattle.placement.proofs.text.write_place.Goals as goal

pub returns-clause-of_list : goal.returns-clause-of_list
returns-clause-of_list c = λ t owned planned stood.
    let r = c.args.recount.now in
    let o = c.args.owners.now in
    let name : List ℕ = c.args.name.now in
    subst (λ (x : List ℕ). IfOk c.write_sums.result (λ text. text.items ≡ x))
    (ap (λ (n : ℕ). text_of (place_lines n name o c.plan.result.now c.sums.result)) c.size.ensures
    ∙ ap (λ (q : Planned). text_of (place_lines r.size name o q c.sums.result)) c.plan.ensures
    ∙ text-of_list r.size name o r.plan c.sums.result t owned planned (c.sums.ensures t stood))
    c.write_sums.ensures

pub returns-clause-of_records : goal.returns-clause-of_records
returns-clause-of_records c = λ begun items owned fresh planned seen.
    let r = c.args.recount.now in
    let o = c.args.owners.now in
    let name : List ℕ = c.args.name.now in
    subst (λ (x : List ℕ). IfOk c.write_sums.result (λ text. text.items ≡ x))
    (ap (λ (n : ℕ). text_of (place_lines n name o c.plan.result.now c.sums.result)) c.size.ensures
    ∙ ap (λ (q : Planned). text_of (place_lines r.size name o q c.sums.result)) c.plan.ensures
    ∙ text-of_records name o begun r c.sums.result items owned fresh planned seen c.sums.ensures)
    c.write_sums.ensures
