use Rattle.std.proofs.Common.{[], ◌∷◌, rules}
use Rattle.finite_cache.specs.CacheState.{LineUse}
use Rattle.finite_cache.specs.Laws.Stated.{use-written}
use Rattle.finite_cache.proofs.tables.settle.Goals as goal

pub returns : goal.returns
returns c =
    use-written c.args.lines.now.entries c.args.line c.in-Some.index c.in-Some.ensures.index
    c.in-Some.ensures.value c.in-Some.ensures.found
    (λ (l : LineUse). record l { harts = c.args.hart ∷ [] }) c.in-Some-get_index_mut.used.now
    c.settle.new.self (search rules) c.settle.ensures
