use Rattle.std.proofs.Common.{List, ℕ, None, Some, refl, sym, ◌∙◌, ap}
use Rattle.hart_scheduler.specs.Numbers.{number_of}
use Rattle.hart_scheduler.proofs.Reading.{entry_parts}
use Rattle.hart_scheduler.proofs.entry.parse_line.Goals as goal

pub returns-in_err-hart : goal.returns-in_err-hart
returns-in_err-hart c =
    rw c.from_residual.ensures
    (sym (entry_parts c.args.line.now None _
    (ap (λ (text : List ℕ). number_of text) (sym c.cut_at.ensures.front)
    ∙ (sym c.number_of.ensures ∙ c.in_err-hart.was)) refl))

pub returns-in_err-count : goal.returns-in_err-count
returns-in_err-count c =
    rw c.from_residual-in_err-count.ensures (sym
    (entry_parts c.args.line.now (Some c.in_ok-hart.hart) None
    (ap (λ (text : List ℕ). number_of text) (sym c.cut_at.ensures.front)
    ∙ (sym c.number_of.ensures ∙ c.in_ok-hart.was))
    (ap (λ (text : List ℕ). number_of text) (sym c.cut_at.ensures.back)
    ∙ (sym c.number_of-2.ensures ∙ c.in_err-count.was))))

pub returns : goal.returns
returns c = sym (entry_parts c.args.line.now (Some c.in_ok-hart.hart) (Some c.in_ok-count.count)
    (ap (λ (text : List ℕ). number_of text) (sym c.cut_at.ensures.front)
    ∙ (sym c.number_of.ensures ∙ c.in_ok-hart.was))
    (ap (λ (text : List ℕ). number_of text) (sym c.cut_at.ensures.back)
    ∙ (sym c.number_of-2.ensures ∙ c.in_ok-count.was)))
