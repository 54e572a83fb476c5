use Rattle.std.proofs.Common.{◌∷◌, ◌++◌, [], ap, sym, take, ◌∙◌}
use Rattle.std.proofs.lemmas.List.{take_more}
use Rattle.std.proofs.lemmas.List.Elements.{filter_map-append}
use Rattle.objects.specs.Symbols.{symbols_of}
use Rattle.trace_passes.specs.Lives.{symbol_in, symbols_in}
use Rattle.predator_cli.proofs.explain.symbol_table.Goals as goal

pub loop-symbol-preserved : goal.loop-symbol-preserved
loop-symbol-preserved c =
    let items = c.args.symbols.now in
    let i = c.loop-symbol.symbol-index in
    let x = c.symbol-item.result in
    c.in_ok-note_symbol.ensures (symbols_in (take i items)) c.loop-symbol.invariant
    ∙ sym (ap symbols_of
    (ap symbols_in (take_more items i x c.loop-symbol-test.true
    ∙ ap (λ y. take i items ++ y ∷ []) (sym c.symbol-item.is))
    ∙ filter_map-append symbol_in (take i items) (x ∷ [])))
