use Rattle.std.proofs.Common.{List, ℕ, sym, ◌∙◌, subst}
use Rattle.std.specs.Str.Parse.{ParsesUnsigned}
use Rattle.hart_scheduler.proofs.Digits.{no_number, parsed, utf8}
use Rattle.hart_scheduler.proofs.entry.number_of.Goals as goal

pub returns-then-not-is_numeral : goal.returns-then-not-is_numeral
returns-then-not-is_numeral c =
    sym (no_number _ (sym c.is_numeral.ensures ∙ c.if-not-is_numeral.true))

pub returns-in-Ok : goal.returns-in-Ok
returns-in-Ok c =
    let P : List ℕ → Type 0 = λ text. ParsesUnsigned 32 10 text c.parse.result in
    c.ok.ensures.value ∙ parsed c.args.text.now c.parse.result
    (subst P c.in-Ok.ensures.cases.0 c.parse.ensures.value.0)
    (sym c.is_numeral.ensures ∙ c.if-not-is_numeral.false)

pub returns-in-Err : goal.returns-in-Err
returns-in-Err c = absurd
    (c.in-Err.ensures.cases.0
    (utf8 c.args.text.now (sym c.is_numeral.ensures ∙ c.if-not-is_numeral.false)))
