use Rattle.std.proofs.Common.{sym, ◌∙◌}
use Rattle.std.specs.Prelude.{option_map}
use Rattle.objects.specs.Rows.{symbol_of}
use Rattle.objects.proofs.FunctionLaws.{name_found, name_lost}
use Rattle.objects.proofs.object_index.first_function.Goals as goal

pub returns-then-is_some : goal.returns-then-is_some
returns-then-is_some c =
    name_found (λ n. n.now) c.args.pc c.args.objects.now.symbols c.args.numbers.now
    c.loop-number.number-index _ (option_map symbol_of c.symbol.result) c.name_there-name.result
    c.loop-number-test.true c.symbol.ensures.row c.loop-number.invariant
    c.name_there-name.ensures (sym c.is_some.ensures ∙ c.if-is_some.true)

pub loop-number-preserved : goal.loop-number-preserved
loop-number-preserved c =
    name_lost (λ n. n.now) c.args.pc c.args.objects.now.symbols c.args.numbers.now
    c.loop-number.number-index _ (option_map symbol_of c.symbol.result) c.name_there-name.result
    c.loop-number-test.true c.symbol.ensures.row c.loop-number.invariant
    c.name_there-name.ensures (sym c.is_some.ensures ∙ c.if-is_some.false)
