use Rattle.std.proofs.Common.{◌≡◌, ◌∙◌, sym, map, true≢false}
use Rattle.objects.specs.Symbols.{kept_symbol}
use Rattle.objects.proofs.Lives.{other_symbols}
use Rattle.objects.proofs.SymbolKeys.{entry_of, kept, noted, seen, symbol_in, unknown}
use Rattle.objects.specs.Laws.Symbols.{symbols_after}
use Rattle.objects.proofs.SymbolLaws.{added, behind, still, whole}
use Rattle.objects.proofs.table.ObjectTable.note_symbol.Goals as goal

pub returns-then-contains_key-clause-noted : goal.returns-then-contains_key-clause-noted
returns-then-contains_key-clause-noted c =
    let new = kept (entry_of c.args.kind c.args.addr c.args.size c.args.name.now)
    c.self.inside.symbols.entries (sym
    c.contains_key.ensures ∙ c.if-contains_key.true) in
    rw (← c.self.view_is) (other_symbols _ _ _
    (added _ _ (kept_symbol c.args.kind c.args.addr c.args.size c.args.name.now) new
    c.self.invariant.0))

pub returns-then-contains_key-clause-whole : goal.returns-then-contains_key-clause-whole
returns-then-contains_key-clause-whole c =
    let new = kept (entry_of c.args.kind c.args.addr c.args.size c.args.name.now)
    c.self.inside.symbols.entries (sym
    c.contains_key.ensures ∙ c.if-contains_key.true) in
    rw (← c.self.view_is) (λ list same. whole _ _
    (kept_symbol c.args.kind c.args.addr c.args.size c.args.name.now) new list same)

pub returns-in-Err-clause-known : goal.returns-in-Err-clause-known
returns-in-Err-clause-known c =
    rw (← c.self.view_is) (λ known. absurd
    (unknown (entry_of c.args.kind c.args.addr c.args.size c.args.name.now)
    c.self.inside.symbols.entries (sym c.contains_key.ensures ∙ c.if-contains_key.false) known))

pub returns-in_err-insert-clause-known : goal.returns-in_err-insert-clause-known
returns-in_err-insert-clause-known c =
    rw (← c.self.view_is) (λ known. absurd
    (unknown (entry_of c.args.kind c.args.addr c.args.size c.args.name.now)
    c.self.inside.symbols.entries (sym c.contains_key.ensures ∙ c.if-contains_key.false) known))

pub invariant_of-self-2 : goal.invariant_of-self-2
invariant_of-self-2 c =
    let new : map symbol_in c.insert.new.self.entries
    ≡ symbols_after (map symbol_in c.self.inside.symbols.entries) (kept_symbol
    c.args.kind c.args.addr c.args.size c.args.name.now) =
    rw (c.in_ok-insert.ensures.entries, c.in-Ok.ensures)
    (noted (entry_of c.args.kind c.args.addr c.args.size c.args.name.now)
    c.self.inside.symbols.entries (sym c.contains_key.ensures ∙ c.if-contains_key.false)) in (
      still _ _ (kept_symbol c.args.kind c.args.addr c.args.size c.args.name.now) new
          c.self.invariant.0,
      c.self.invariant.1,
    )

pub returns-clause-noted : goal.returns-clause-noted
returns-clause-noted c =
    let new : map symbol_in c.insert.new.self.entries
    ≡ symbols_after (map symbol_in c.self.inside.symbols.entries) (kept_symbol
    c.args.kind c.args.addr c.args.size c.args.name.now) =
    rw (c.in_ok-insert.ensures.entries, c.in-Ok.ensures)
    (noted (entry_of c.args.kind c.args.addr c.args.size c.args.name.now)
    c.self.inside.symbols.entries (sym c.contains_key.ensures ∙ c.if-contains_key.false)) in
    rw (← c.self.view_is) (other_symbols _ _ _
    (added _ _ (kept_symbol c.args.kind c.args.addr c.args.size c.args.name.now) new
    c.self.invariant.0))

pub returns-clause-whole : goal.returns-clause-whole
returns-clause-whole c =
    let new : map symbol_in c.insert.new.self.entries
    ≡ symbols_after (map symbol_in c.self.inside.symbols.entries) (kept_symbol
    c.args.kind c.args.addr c.args.size c.args.name.now) =
    rw (c.in_ok-insert.ensures.entries, c.in-Ok.ensures)
    (noted (entry_of c.args.kind c.args.addr c.args.size c.args.name.now)
    c.self.inside.symbols.entries (sym c.contains_key.ensures ∙ c.if-contains_key.false)) in
    rw (← c.self.view_is) (λ list same. whole _ _
    (kept_symbol c.args.kind c.args.addr c.args.size c.args.name.now) new list same)

pub returns-then-contains_key-clause-fresh : goal.returns-then-contains_key-clause-fresh
returns-then-contains_key-clause-fresh c =
    let e = entry_of c.args.kind c.args.addr c.args.size c.args.name.now in
    let known = seen e c.self.inside.symbols.entries ∙ sym c.contains_key.ensures
    ∙ c.if-contains_key.true in
    rw (← c.self.view_is) (λ fresh. absurd (true≢false (sym known ∙ fresh)))

pub returns-clause-fresh : goal.returns-clause-fresh
returns-clause-fresh c =
    let new : map symbol_in c.insert.new.self.entries
    ≡ symbols_after (map symbol_in c.self.inside.symbols.entries) (kept_symbol
    c.args.kind c.args.addr c.args.size c.args.name.now) =
    rw (c.in_ok-insert.ensures.entries, c.in-Ok.ensures)
    (noted (entry_of c.args.kind c.args.addr c.args.size c.args.name.now)
    c.self.inside.symbols.entries (sym c.contains_key.ensures ∙ c.if-contains_key.false)) in
    rw (← c.self.view_is) (λ fresh. behind _ _
    (kept_symbol c.args.kind c.args.addr c.args.size c.args.name.now) new c.self.invariant.0
    fresh)
