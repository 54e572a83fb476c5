use Rattle.std.proofs.Common.{◌≤◌, sym, ◌∙◌, ap, length, arith}
use Rattle.std.specs.Option.{option_map}
use Rattle.objects.specs.Symbols.{Symbol, is_function_at}
use Rattle.objects.specs.Laws.Indexes.{first_passes, no_first, passes_from}
use Rattle.objects.proofs.table.ObjectTable.function_at.Goals as goal

pub returns-then-is_function_at : goal.returns-then-is_function_at
returns-then-is_function_at c =
    let symbols = c.args.self.now.symbols in
    let row = c.in_ok-row.ensures.row in
    let here = passes_from (is_function_at c.args.pc) symbols c.loop-i.i _ (sym row)
    (sym c.is_function_at.ensures ∙
    c.if-is_function_at.true) in
    sym (ap (option_map (λ (s : Symbol). s.name))
    (first_passes (is_function_at c.args.pc) symbols c.loop-i.i c.loop-i.invariant here ∙
    sym row))

pub returns : goal.returns
returns c =
    let symbols = c.args.self.now.symbols in
    let all : length symbols ≤ c.loop-i.i = omega
    (arith, c.symbol_count-i-end.ensures.value, c.loop-i-test.false) in
    sym (ap (option_map (λ (s : Symbol). s.name))
    (no_first (is_function_at c.args.pc) symbols (λ k h. c.loop-i.invariant k (omega arith))))
