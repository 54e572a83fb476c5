use Rattle.std.proofs.Common.{◌∷◌, ◌++◌, ◌∙◌, [], List, map, ap, refl, sym, append_assoc}
use Rattle.objects.specs.Symbols.{Symbol}
use Rattle.program_files.specs.NotedSymbols.{kept}
use Rattle.program_files.proofs.summary_symbols.note_symbols.Goals as goal

pub loop-symbol-init : goal.loop-symbol-init
loop-symbol-init c = rw c.new-table.ensures (refl, [], refl, refl)

pub loop-symbol-preserved : goal.loop-symbol-preserved
loop-symbol-preserved c =
    let so_far = c.loop-symbol.invariant in
    let seen : List Symbol = so_far.1 in
    let s = c.in-Some.symbol in
    let one : Symbol =
    record { kind = s.kind; addr = s.addr; size = s.size; name = s.name.now } in (
      rw c.in-Ok.ensures.noted so_far.0,
      seen ++ kept one ∷ [],
      c.in-Ok.ensures.whole seen so_far.2,
      append_assoc seen (kept one ∷ []) (map kept c.next.new.self)
          ∙ ap (λ (l : List Symbol). seen ++ map kept l) (sym c.in-Some.ensures.steps) ∙ so_far.3,
    )
