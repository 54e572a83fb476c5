use Rattle.std.proofs.Common.{List, sym, ap, ◌∙◌, subst, get_or}
use Rattle.rv32_hart.specs.Space.{Space, SomeUnmapped, no_page}
use Rattle.rv32_hart.specs.declared.page.Page.{Page}
use Rattle.rv32_hart.proofs.Slices.{some_unmapped}
use Rattle.rv32_hart.proofs.memory.Memory.range_of.Goals as goal

pub returns-then-not-are_mapped-clause-unmapped : goal.returns-then-not-are_mapped-clause-unmapped
returns-then-not-are_mapped-clause-unmapped c =
    let m : Space = record {
      base = c.self.inside.base;
      bytes = c.self.inside.bytes.items;
      pages =
          c.self.inside.pages.items;
    } in
    let found = c.if-not-are_mapped.ensures.unmapped in
    let P : Space → Type 0 = λ s. SomeUnmapped s c.args.addr c.args.len in
    subst P c.self.view_is (some_unmapped m c.args.addr c.args.len found.0 c.if-addr-self.false
    c.requires found.1 found.2
    (ap (λ (pages : List Page). (get_or pages found.0 no_page).mapped) (sym c.deref.ensures.value)
    ∙ found.3))
