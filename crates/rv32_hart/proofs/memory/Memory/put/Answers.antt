use Rattle.std.proofs.Common.{◌≡◌, ◌-◌, ◌∙◌, ap, length, sym, None}
use Rattle.std.proofs.lemmas.List.{with_items_is}
use Rattle.rv32_hart.specs.Faults.{store_fault}
use Rattle.rv32_hart.specs.Space.{Space, page_at}
use Rattle.rv32_hart.specs.declared.page.Page.{Page}
use Rattle.rv32_hart.proofs.KeptInstrs.{put_keeps}
use Rattle.rv32_hart.proofs.memory.Memory.put.Goals as goal

pub invariant_of-self : goal.invariant_of-self
invariant_of-self c =
    let v = c.self.inside.bytes in
    let places = c.self.inside.kept in
    let m : Space = record {
      base = c.self.inside.base;
      bytes = v.items;
      pages = c.self.inside.pages.items;
    } in
    let accepted : store_fault m c.args.addr c.args.size ≡ None = rw (← c.self.view_is) at
    c.requires.accepted in
    let at : c.byte_index-at.result ≡ c.args.addr - m.base = c.byte_index-at.ensures.same
    ∙ ap (λ (s : Space). c.args.addr - s.base) (sym c.self.view_is) in
    let page : c.page_of-executable.result ≡ page_at m c.args.addr =
    c.page_of-executable.ensures.page
    ∙ ap (λ (s : Space). page_at s c.args.addr) (sym c.self.view_is) in
    put_keeps m places.items c.args.addr c.args.size c.args.value
    c.page_of-executable.result.executable _ _ c.self.invariant c.requires.size accepted
    (ap (λ (p : Page). p.executable) page)
    (with_items_is v c.put_number.new.bytes (c.put_number.auto.bytes
    ∙ ap length c.deref_mut-2.ensures.value ∙ sym v.ok.0)
    ∙ (rw (c.deref_mut-2.ensures.value, at) at c.put_number.ensures))
    (with_items_is places c.forget_word.new.kept (c.forget_word.auto.kept
    ∙ ap length c.deref_mut.ensures.value ∙ sym places.ok.0)
    ∙ (rw c.deref_mut.ensures.value at c.forget_word.ensures))
