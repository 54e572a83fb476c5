use Rattle.std.proofs.Common.{◌≡◌, ◌∙◌, sym, ap, arith, length}
use Rattle.std.proofs.lemmas.List.{with_items_is}
use Rattle.rv32_hart.specs.Space.{Space, IsRange}
use Rattle.rv32_hart.proofs.KeptInstrs.{maps_kept}
use Rattle.rv32_hart.proofs.Mappings.{maps, mapped_space}
use Rattle.rv32_hart.proofs.memory.Memory.map.Goals as goal

pub returns : goal.returns
returns c =
    let v = c.self.inside.pages in
    let m : Space = record {
      base = c.self.inside.base;
      bytes = c.self.inside.bytes.items;
      pages =
          v.items;
    } in
    let range : IsRange m c.args.at c.args.len = rw (← c.self.view_is) at c.requires in
    let long : length c.grant.new.pages ≡ length v.items = c.grant.auto.pages
    ∙ ap length c.deref_mut.ensures.value in
    rw (← c.self.view_is)
    (maps m c.args.at c.args.len c.args.writable c.args.executable _ c.grant.new.pages
    c.self.invariant.space range (omega arith)
    (with_items_is v c.grant.new.pages (long ∙ sym v.ok.0))
    (rw c.deref_mut.ensures.value at c.grant.ensures))

pub invariant_of-self : goal.invariant_of-self
invariant_of-self c =
    let v = c.self.inside.pages in
    let m : Space = record {
      base = c.self.inside.base;
      bytes = c.self.inside.bytes.items;
      pages =
          v.items;
    } in
    let range : IsRange m c.args.at c.args.len = rw (← c.self.view_is) at c.requires in
    let long : length c.grant.new.pages ≡ length v.items = c.grant.auto.pages
    ∙ ap length c.deref_mut.ensures.value in
    let items = with_items_is v c.grant.new.pages (long ∙ sym v.ok.0) in
    let each = rw c.deref_mut.ensures.value at c.grant.ensures in
    record {
      space =
          mapped_space m _ _ c.args.writable c.args.executable _ c.grant.new.pages
          c.self.invariant.space items long each;
      table =
          maps_kept m _ c.args.at c.args.len c.args.writable c.args.executable
          c.self.inside.kept.items
          (maps m c.args.at c.args.len c.args.writable c.args.executable _ c.grant.new.pages
          c.self.invariant.space range (omega arith) items each)
          c.self.invariant.table;
    }
