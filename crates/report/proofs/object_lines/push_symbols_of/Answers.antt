use Rattle.std.proofs.Common.{string_bytes}
use Rattle.std.specs.Prelude.{option_map, ◌&&◌}
use Rattle.objects.specs.Rows.{symbol_of}
use Rattle.objects.specs.Symbols.{is_same_kind}
use Rattle.objects.specs.declared.symbol.SymbolKind.TheVariants.{Object}
use Rattle.base.specs.TextLines.{text_of}
use Rattle.report.specs.Standing.{symbol_stands}
use Rattle.report.specs.Lines.{symbol_line, symbol_lines}
use Rattle.report.proofs.FoundLaws.{text_found}
use Rattle.report.proofs.TextLaws.{text_of-joins}
use Rattle.report.proofs.object_lines.push_symbols_of.Goals as goal

pub loop-number-preserved : goal.loop-number-preserved
loop-number-preserved c =
    text_found (λ xs. text_of (symbol_lines c.args.range xs))
    (text_of-joins symbol_line (λ s. is_same_kind s.kind Object && symbol_stands c.args.range s.addr
    s.size))
    c.args.objects.now.symbols c.args.numbers.now c.loop-number.number-index _
    (option_map symbol_of c.symbol.result) (string_bytes c.args.text.now)
    (string_bytes c.loop-number.text) (string_bytes c.push_symbol_at.new.text)
    c.loop-number-test.true c.symbol.ensures.row c.loop-number.invariant
    c.in_ok-push_symbol_at.ensures
