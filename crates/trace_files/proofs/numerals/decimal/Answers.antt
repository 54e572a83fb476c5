use Rattle.std.proofs.Common.{List, ℕ, sym, ◌∙◌, subst}
use Rattle.std.specs.Str.Parse.{ParsesUnsigned}
use Rattle.trace_files.proofs.Digits.{decimal_none, decimal_parsed, decimal_utf8}
use Rattle.trace_files.proofs.numerals.decimal.Goals as goal

pub returns-then-not-is_decimal : goal.returns-then-not-is_decimal
returns-then-not-is_decimal c =
    sym (decimal_none _ (sym c.is_decimal.ensures ∙ c.if-not-is_decimal.true))

pub returns-in-Ok : goal.returns-in-Ok
returns-in-Ok c =
    let P : List ℕ → Type 0 = λ text. ParsesUnsigned 64 10 text c.parse.result in
    c.ok.ensures.value ∙ decimal_parsed c.args.text.now c.parse.result
    (sym c.is_decimal.ensures ∙ c.if-not-is_decimal.false)
    (subst P c.in-Ok.ensures.cases.0 c.parse.ensures.value.0)

pub returns-in-Err : goal.returns-in-Err
returns-in-Err c = absurd
    (c.in-Err.ensures.cases.0
    (decimal_utf8 c.args.text.now (sym c.is_decimal.ensures ∙ c.if-not-is_decimal.false)))
