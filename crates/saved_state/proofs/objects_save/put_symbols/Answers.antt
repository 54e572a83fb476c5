use Rattle.std.proofs.Common.{◌∙◌, ◌<◌, length, sym, true≢false, arith}
use Rattle.objects.specs.Rows.{symbol_of}
use Rattle.saved_state.specs.ObjectSpelling.{spell_saved_symbol}
use Rattle.saved_state.proofs.Appended.{spelled_more}
use Rattle.saved_state.proofs.objects_save.put_symbols.Goals as goal
use Rattle.saved_state.proofs.objects_save.put_symbols.Goals.{in-Some+in_ok-symbol_bytes-in-Some}
use Rattle.saved_state.proofs.objects_save.put_symbols.Goals.{in-None}

pub loop-i-preserved : goal.loop-i-preserved
loop-i-preserved c =
    elim c.match-symbol.branch [
      | in-Some+in_ok-symbol_bytes-in-Some w ↦
          spelled_more spell_saved_symbol c.args.table.now.symbols c.loop-i.i
          (symbol_of w.in-Some.row) c.args.into.now.items c.loop-i.into.items _
          (sym w.in-Some.ensures.row) c.loop-i.invariant
          ((λ i. (w.into-is i).items) ∙ w.in_ok-symbol_bytes-in-Some.ensures.ok)
      | in-None w ↦
          let within : c.loop-i.i < length c.args.table.now.symbols =
          omega (arith, c.loop-i-test.true, c.symbol_count-i-end.ensures.value) in
          absurd (true≢false (sym (w.in-None.ensures.found.1 within)))
    ]
