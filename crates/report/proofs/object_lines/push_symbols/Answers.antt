use Rattle.std.proofs.Common.{◌≡◌, ℕ, List, OnOk, ap, subst, ◌∙◌}
use Rattle.std.specs.Prelude.{filter_map, slice_get}
use Rattle.objects.specs.Objects.{Objects}
use Rattle.report.specs.Added.{AddsLines}
use Rattle.report.specs.Lines.{TextLine, symbol_lines}
use Rattle.report.proofs.FoundLaws.{near_symbols}
use Rattle.report.proofs.object_lines.push_symbols.Goals as goal

pub returns : goal.returns
returns c =
    let r = c.args.range in
    let all : Objects = c.args.index.now in
    let numbers : List ℕ = c.deref.result.now in
    let same : symbol_lines r (filter_map (slice_get c.table.result.now.symbols) numbers)
    ≡ symbol_lines r all.symbols =
    ap (λ (t : Objects). symbol_lines r (filter_map (slice_get t.symbols) numbers)) c.table.ensures
    ∙ ap (λ (ns : List ℕ). symbol_lines r (filter_map (slice_get all.symbols) ns))
    c.deref.ensures.value
    ∙ ap (symbol_lines r) c.in_ok-numbers.ensures
    ∙ near_symbols r c.first_address.result c.end_address.result c.first_address.ensures
    c.end_address.ensures all.symbols in
    subst (λ (ls : List TextLine). OnOk c.push_symbols_of.result
    (AddsLines c.args.text.now c.push_symbols_of.new.text ls)) same c.push_symbols_of.ensures
