use Rattle.std.proofs.Common.{ℕ, ap, ◌∙◌}
use Rattle.std.specs.Map.{keys_of}
use Rattle.std.specs.Prelude.{is_some}
use Rattle.lru.specs.LruCache.{LruCache}
use Rattle.finite_cache.specs.Bounded.{has, without}
use Rattle.finite_cache.specs.CacheState.{WaySet}
use Rattle.finite_cache.specs.Laws.Ways.{found-has, keys-removed, ways_of}
use Rattle.finite_cache.proofs.way_set.WaySet.take_out.Goals as goal

pub returns-clause-found : goal.returns-clause-found
returns-clause-found c =
    c.is_some.ensures ∙ ap is_some c.pop.ensures.value
    ∙ found-has c.args.line c.self.inside.lines.entries
    ∙ ap (λ (w : WaySet). has c.args.line w.lines) c.self.view_is

pub returns-clause-out : goal.returns-clause-out
returns-clause-out c =
    ap (λ (l : LruCache ℕ (Unit {0})). ways_of (keys_of l.entries) l.cap) c.pop.ensures.entries
    ∙ ap (λ ks. ways_of ks c.self.inside.lines.cap)
    (keys-removed c.args.line c.self.inside.lines.entries c.len-len.ensures.valid.0)
    ∙ ap (λ (w : WaySet). ways_of (without c.args.line w.lines) w.ways) c.self.view_is
