use Rattle.std.proofs.Common.{◌∙◌, sym, []}
use Rattle.objects.proofs.SymbolKeys.{entry_of, seen}
use Rattle.objects.proofs.table.ObjectTable.has_symbol.Goals as goal

pub returns : goal.returns
returns c =
    rw (← c.self.view_is) (c.contains_key.ensures
    ∙ sym (seen (entry_of c.args.kind c.args.addr c.args.size [])
    c.self.inside.symbols.entries))
