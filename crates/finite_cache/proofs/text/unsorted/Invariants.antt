use Rattle.std.proofs.Common.{◌≡◌, take, map, filter}
use Rattle.finite_cache.specs.CacheState.{row_kept}
use Rattle.finite_cache.specs.Texts.{is_reported}
use Rattle.finite_cache.proofs.text.unsorted.Given as goal

abbrev pub invariant-loop-i : goal.invariant-loop-i
invariant-loop-i l = l.rows.items ≡ filter is_reported
    (map (row_kept l.caches.shape l.caches.parts.lines) (take l.i l.caches.parts.rows))
