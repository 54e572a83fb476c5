use Rattle.std.proofs.Common.{◌∙◌, ap}
use Rattle.std.specs.Prelude.{filter_map, slice_get}
use Rattle.std.proofs.lemmas.Result.{IfOk-weaker}
use Rattle.objects.specs.Symbols.{Symbol}
use Rattle.objects.specs.Laws.Found.{extents-rise, rows_found}
use Rattle.objects.proofs.object_index.ObjectIndex.symbols_on.Goals as goal

pub found_on-requires : goal.found_on-requires
found_on-requires c = rw c.deref.ensures.value c.self.invariant.0.tree

pub returns : goal.returns
returns c =
    let symbols = c.self.inside.objects.now.symbols in
    rw (← c.self.view_is)
    (IfOk-weaker c.found_on.result _ _
    (λ numbers is. ap (filter_map (slice_get symbols))
    (is _ (rw (← c.deref.ensures.value) at c.self.invariant.0.same)
    (extents-rise (λ (s : Symbol). s.addr) (λ (s : Symbol). s.size) symbols))
    ∙ rows_found (λ (s : Symbol). s.addr) (λ (s : Symbol). s.size) c.args.from c.args.to symbols)
    c.found_on.ensures)
