use Rattle.std.proofs.Common.{subst, sym}
use Rattle.std.specs.List.{All}
use Rattle.std.proofs.lemmas.List.Elements.{All-append, All-cons, All-nil, All-tail}
use Rattle.program_files.specs.SymbolViews.{symbol_shown}
use Rattle.objects.specs.Symbols.{Symbol}
use Rattle.run_recorder.specs.Recorded.{IsSymbolRecord}
use Rattle.trace_format.specs.declared.record.TraceRecord.{TraceRecord}
use Rattle.std.proofs.Common.{List, [], ◌∷◌}
use Rattle.predator_cli.specs.Run.{HasNameAndSize}
use Rattle.predator_cli.proofs.SymbolLaws.{listed_more}
use Rattle.predator_cli.proofs.symbols.records_of.Goals as goal

pub loop-symbol-preserved : goal.loop-symbol-preserved
loop-symbol-preserved c =
    let known = c.loop-symbol.invariant in
    let s : Symbol = symbol_shown c.in-Some.symbol in
    let stated : TraceRecord = c.in_ok-record.record in
    let before = c.loop-symbol.records.items in (
      listed_more before c.push.new.self.items stated c.loop-symbol.symbols c.next.new.self s _
          c.in_ok-push.ensures.items
          c.in_ok-record.ensures.value
          c.in-Some.ensures.steps known.0,
      All-tail HasNameAndSize s c.next.new.self
          (subst (λ (l : List Symbol). All HasNameAndSize l) c.in-Some.ensures.steps known.1),
      subst (λ (l : List TraceRecord). All IsSymbolRecord l) (sym c.in_ok-push.ensures.items)
          (All-append IsSymbolRecord before (stated ∷ []) known.2
          (All-cons IsSymbolRecord stated [] c.in_ok-record.ensures.good (All-nil IsSymbolRecord))),
    )
