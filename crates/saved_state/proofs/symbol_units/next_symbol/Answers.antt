use Rattle.std.proofs.Common.{◌≡◌, ◌+◌, ◌++◌, ◌∷◌, [], length, ◌∙◌, List, ℕ, drop, None, Some, Err, ap}
use Rattle.std.proofs.Common.{sym, arith}
use Rattle.std.specs.List.{list_any}
use Rattle.objects.specs.Symbols.{Symbol, is_in_place_of, kept_symbol}
use Rattle.base.specs.declared.faults.ResumeFault.{ResumeFault}
use Rattle.saved_state.specs.ObjectJudging.{symbol_at, symbol_in, symbols_at, symbols_read}
use Rattle.saved_state.specs.ObjectSpelling.{spell_saved_symbol}
use Rattle.saved_state.proofs.LoopLaws.{next_unit, no_unit}
use Rattle.saved_state.proofs.SymbolUnits.{kept_whole, length-symbol, no_symbol, rules_of}
use Rattle.saved_state.proofs.SymbolUnits.{symbol_in-short, symbol_is, symbol_there}
use Rattle.saved_state.proofs.symbol_units.next_symbol.Goals as goal
use Rattle.saved_state.proofs.symbol_units.next_symbol.Goals.{then-bytes-lt-NAME_PLACE-via-then-bytes-lt-NAME_PLACE}
use Rattle.saved_state.proofs.symbol_units.next_symbol.Goals.{then-bytes-lt-NAME_PLACE-via-else-bytes-lt-NAME_PLACE+then-not-is_symbol}

pub returns-then-bytes-lt-NAME_PLACE-clause-refused :
    goal.returns-then-bytes-lt-NAME_PLACE-clause-refused
returns-then-bytes-lt-NAME_PLACE-clause-refused c = λ more memory.
    let before = c.args.table.now.symbols in
    let bytes = c.args.rest.bytes.now in
    let none : symbol_in before bytes ≡ None = elim c.then-bytes-lt-NAME_PLACE.branch [
      | then-bytes-lt-NAME_PLACE-via-then-bytes-lt-NAME_PLACE w ↦
          symbol_in-short before bytes (omega (arith, w.if-bytes-lt-NAME_PLACE.true))
      | then-bytes-lt-NAME_PLACE-via-else-bytes-lt-NAME_PLACE+then-not-is_symbol w ↦
          no_symbol before bytes (sym w.is_symbol.ensures ∙ w.if-not-is_symbol.true)
    ] in
    no_unit symbol_in spell_saved_symbol (symbols_at c.args.table.now c.args.rest.place bytes) more
    none ∙ ap (λ (f : ResumeFault). Err f) (sym c.fault_at.ensures)

pub returns-in-Ok-clause-read : goal.returns-in-Ok-clause-read
unfolding symbol_at
returns-in-Ok-clause-read c = λ more.
    let before = c.args.table.now.symbols in
    let rest = c.args.rest in
    let bytes = rest.bytes.now in
    let s = symbol_at bytes in
    let name = c.name_at-name.ensures.value in
    let is : symbol_in before bytes ≡ Some s =
    symbol_there before bytes (sym c.is_symbol.ensures ∙ c.if-not-is_symbol.false) in
    let rules = rules_of before s (symbol_is before bytes s is).0.is_good in
    let long = length-symbol s ∙ ap (λ (xs : List ℕ). 12 + length xs) (sym name) in
    let kept : kept_symbol c.kind_at.result c.u32_at.result c.u32_at-2.result
    c.name_at-name.result.now ≡ s =
    kept_whole c.kind_at.result c.u32_at.result c.u32_at-2.result c.name_at-name.result.now
    (omega (arith, rules.short, ap length name))
    ∙ (λ i. record {
      kind = c.kind_at.ensures i;
      addr = c.u32_at.ensures i;
      size = c.u32_at-2.ensures i;
      name = name i;
    }) in
    let now : c.note_symbol.new.self.symbols ≡ before ++ s ∷ [] =
    c.in-Ok.ensures.fresh ((λ i. list_any (is_in_place_of (kept i)) before) ∙ rules.room)
    ∙ ap (λ (t : Symbol). before ++ t ∷ []) kept in
    next_unit symbol_in spell_saved_symbol (symbols_at c.args.table.now rest.place bytes) s
    (12 + length c.name_at-name.result.now) more is long
    ∙ ap (λ (ss : List Symbol). symbols_read more
    (record { symbols = ss; blocks = [] }) (rest.place + (12 + length c.name_at-name.result.now))
    (drop (12 + length c.name_at-name.result.now) bytes)) (sym now)
