use Rattle.std.proofs.Common.{◌∙◌, ◌+◌, ℕ, List, ap}
use Rattle.std.specs.Prelude.{filter_map, slice_get}
use Rattle.objects.specs.Objects.{Objects}
use Rattle.objects.specs.Symbols.{Symbol, function_at}
use Rattle.objects.proofs.FunctionLaws.{near_function}
use Rattle.objects.proofs.object_index.ObjectIndex.function_at.Goals as goal

pub returns : goal.returns
returns c =
    let symbols : List Symbol = c.args.self.now.symbols in
    let pc : ℕ = c.args.pc in
    c.first_function.ensures
    ∙ ap (λ (t : Objects). function_at (filter_map (slice_get t.symbols) c.deref.result.now) pc)
    c.self.view_is
    ∙ ap (λ (ns : List ℕ). function_at (filter_map (slice_get symbols) ns) pc)
    c.deref.ensures.value
    ∙ ap (λ (ss : List Symbol). function_at ss pc) c.in_ok-numbers.ensures
    ∙ near_function pc c.from.result (c.from-2.result + 1) symbols c.from.ensures
    (ap (λ (n : ℕ). n + 1) c.from-2.ensures)
