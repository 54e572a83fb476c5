use Rattle.std.proofs.Common.{ap, sym, ◌∙◌, ◌+◌, ◌<◌, length, arith}
use Rattle.objects.specs.Symbols.{is_same_kind}
use Rattle.program_files.proofs.SymbolCounts.{counted, not_counted}
use Rattle.program_files.proofs.summary_symbols.count_of.Goals as goal
use Rattle.program_files.proofs.summary_symbols.count_of.Goals.{then-is_of_kind, else-is_of_kind}

pub loop-i-preserved : goal.loop-i-preserved
loop-i-preserved c =
    let symbols = c.args.symbols.now.symbols in
    let i = c.loop-i.i in
    let inside : i < length symbols =
    omega (arith, c.symbol_count-i-end.ensures, c.loop-i-test.true) in
    elim c.if-is_of_kind.branch [
      | then-is_of_kind w ↦ (
        w.count-is ∙ ap (λ n. n + 1) c.loop-i.invariant.0
            ∙ sym (counted (λ s. is_same_kind s.kind c.args.kind) symbols i inside
            (sym c.is_of_kind.ensures ∙ w.if-is_of_kind.true)),
        omega (arith, w.count-is, c.loop-i.invariant.1),
      )
      | else-is_of_kind w ↦ (
        w.count-is ∙ c.loop-i.invariant.0
            ∙ sym (not_counted (λ s. is_same_kind s.kind c.args.kind) symbols i inside
            (sym c.is_of_kind.ensures ∙ w.if-is_of_kind.false)),
        omega (arith, w.count-is, c.loop-i.invariant.1),
      )
    ]
