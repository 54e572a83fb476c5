use Rattle.std.proofs.Common.{◌≡◌, ◌∙◌, ap, length, refl, sym}
use Rattle.std.proofs.lemmas.List.{with_items_is}
use Rattle.rv32_hart.specs.Space.{Space, IsRange}
use Rattle.rv32_hart.proofs.Fillings.{bytes_put, filled, still_space}
use Rattle.rv32_hart.proofs.KeptInstrs.{none_kept}
use Rattle.rv32_hart.proofs.memory.Memory.fill.Goals as goal

pub returns : goal.returns
returns c =
    let m : Space = record {
      base = c.self.inside.base;
      bytes = c.self.inside.bytes.items;
      pages =
          c.self.inside.pages.items;
    } in
    let range : IsRange m c.args.at (length c.args.content.now) = rw (← c.self.view_is) at
    c.requires in
    rw (← c.self.view_is)
    (filled m c.args.at _ c.args.content.now range
    (bytes_put c.self.inside.bytes m c.args.at c.deref_mut.result.now c.copy_from_slice.new.self
    c.args.content.now refl range
    c.deref_mut.ensures.value c.copy_from_slice.ensures.after))

pub invariant_of-self : goal.invariant_of-self
invariant_of-self c =
    let m : Space = record {
      base = c.self.inside.base;
      bytes = c.self.inside.bytes.items;
      pages =
          c.self.inside.pages.items;
    } in
    let range : IsRange m c.args.at (length c.args.content.now) = rw (← c.self.view_is) at
    c.requires in
    let v = c.self.inside.kept in
    let kept = c.forget_all.new.kept in
    let places : length v.items ≡ 4096 = c.self.invariant.table.places in
    let as_many : length c.deref_mut-2.result.now ≡ 4096 = ap length c.deref_mut-2.ensures.value
    ∙ places in
    let items = with_items_is v kept (c.forget_all.ensures.places ∙ as_many ∙ sym places
    ∙ sym v.ok.0) in
    record {
      space =
          still_space m c.args.at _ c.args.content.now range
          (bytes_put c.self.inside.bytes m c.args.at c.deref_mut.result.now
          c.copy_from_slice.new.self c.args.content.now refl range
          c.deref_mut.ensures.value c.copy_from_slice.ensures.after)
          c.self.invariant.space;
      table = rw items (none_kept _ kept _ c.forget_all.ensures as_many);
    }
