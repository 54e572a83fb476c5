use Rattle.std.proofs.Common.{List, ℕ, ap, arith, drop, length-drop, sym, ◌∙◌}
use Rattle.std.proofs.lemmas.List.{take_all}
use Rattle.trace_files.specs.Numerals.{hexadecimal_of}
use Rattle.trace_files.proofs.Digits.{marked_number, unmarked_number}
use Rattle.trace_files.proofs.numerals.number.Goals as goal

pub returns-then-is_marked : goal.returns-then-is_marked
returns-then-is_marked c =
    c.hexadecimal.ensures
    ∙ ap (λ (l : List ℕ). hexadecimal_of l) (take_all _ (drop 2 c.args.text.now)
    (omega (arith, length-drop 2 c.args.text.now)))
    ∙ sym (marked_number c.args.text.now (sym c.is_marked.ensures ∙ c.if-is_marked.true))

pub returns-else-is_marked : goal.returns-else-is_marked
returns-else-is_marked c =
    c.decimal.ensures ∙ sym (unmarked_number c.args.text.now (sym c.is_marked.ensures ∙ c.if-is_marked.false))
