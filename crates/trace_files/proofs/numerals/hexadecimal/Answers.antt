use Rattle.std.proofs.Common.{List, ℕ, sym, ◌∙◌, subst}
use Rattle.std.specs.Str.Parse.{ParsesUnsigned}
use Rattle.trace_files.proofs.Digits.{hexadecimal_none, hexadecimal_parsed, hexadecimal_utf8}
use Rattle.trace_files.proofs.numerals.hexadecimal.Goals as goal

pub returns-then-not-is_hexadecimal : goal.returns-then-not-is_hexadecimal
returns-then-not-is_hexadecimal c =
    sym (hexadecimal_none _ (sym c.is_hexadecimal.ensures ∙ c.if-not-is_hexadecimal.true))

pub returns-in-Ok : goal.returns-in-Ok
returns-in-Ok c =
    let P : List ℕ → Type 0 = λ text. ParsesUnsigned 64 16 text c.from_str_radix.result in
    c.ok.ensures.value ∙ hexadecimal_parsed c.args.text.now c.from_str_radix.result
    (sym c.is_hexadecimal.ensures ∙ c.if-not-is_hexadecimal.false)
    (subst P c.in-Ok.ensures.cases.0 c.from_str_radix.ensures.value)

pub returns-in-Err : goal.returns-in-Err
returns-in-Err c = absurd
    (c.in-Err.ensures.cases.0
    (hexadecimal_utf8 c.args.text.now (sym c.is_hexadecimal.ensures ∙ c.if-not-is_hexadecimal.false)))
