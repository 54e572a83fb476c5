use Rattle.std.proofs.Common.{◌-◌, length, take, rules}
use Rattle.finite_cache.specs.CacheState.{LineUse}
use Rattle.finite_cache.specs.Laws.Stated.{use-written}
use Rattle.finite_cache.proofs.tables.take_back.Goals as goal

pub returns : goal.returns
returns c =
    use-written c.args.lines.now.entries c.args.line c.in-Some.index c.in-Some.ensures.index
    c.in-Some.ensures.value c.in-Some.ensures.found
    (λ (l : LineUse). record l { harts = take (length l.harts - 1) l.harts }) c.in-Some-get_index_mut.used.now
    c.take_back.new.self (search rules) c.take_back.ensures
